-- What `select` and `tile` write and read, of the told object and body.
use Rattle.std.proofs.Common.{◌≡◌, ℕ, ◌+◌, ◌≤◌, List, Option, None, Some, Result, Ok, Err, IfSome, inr, sym, subst, arith}
use Rattle.std.specs.Prelude.{IfOk, IfErr}
use Rattle.select_ports.specs.Stored.{Objects, Opened, OpensName}
use Rattle.line_window.specs.Sliding.{Tells}
use Rattle.record_stream.specs.Replied.{WritesReply}
use Rattle.select_job.specs.declared.asked.Asked.{Asked}
use Rattle.select_job.specs.Prepared.{Prepares, EachAsksOneThing}
use Rattle.select_reply.specs.declared.outcome.Outcome.{Outcome}
use Rattle.select_engine.specs.Answered.{events}
use Rattle.select_tool.specs.declared.trouble.Trouble.{Trouble}
use Rattle.select_tool.specs.Replies.{IfTold, Replied, IsCutShort, IsNotHeldBack, NotHeldBack, TookNear, reply_outcome, most_read_of}
use Rattle.select_tool.specs.Tiles.{TookNearTiles, most_read_of_all, tiles_of}
use Rattle.select_tool.proofs.TileLaws.{about_opened, prepared}

module _ (longest : ℕ) (held : Option Objects) (left : Option (List ℕ)) (name : List ℕ) (size : ℕ) (opened : Opened) (asked : Asked) (before now : Option (List ℕ))
    (opens : OpensName held name size opened) (read : IfSome left (λ body. Prepares body asked)) where
  pub all_replied : (result : Result Outcome Trouble)
      → ((object : List ℕ) → Tells opened object → WritesReply (λ frame. frame) (events longest object asked) (reply_outcome longest object asked) before now result)
      → IfOk result (λ outcome. IfTold held left name (λ object body. Replied longest object body outcome before now))
  all_replied (Ok outcome) written = about_opened held left name size opened _ opens (λ object body tells is. record {
    asked = asked;
    prepared = prepared left asked body read is;
    written = (written object tells).0;
    ended = (written object tells).1;
  })
  all_replied (Err trouble) written = tt

  pub all_cut : (result : Result Outcome Trouble)
      → ((object : List ℕ) → Tells opened object → WritesReply (λ frame. frame) (events longest object asked) (reply_outcome longest object asked) before now result)
      → IfErr result (λ trouble. IfTold held left name (λ object body. IsCutShort longest object body before now))
  all_cut (Ok outcome) written = tt
  all_cut (Err trouble) written = about_opened held left name size opened _ opens (λ object body tells is. inr (record {
    asked = asked;
    prepared = prepared left asked body read is;
    written = written object tells;
  }))

  pub all_early : EachAsksOneThing → (taken : ℕ)
      → ((object : List ℕ) → Tells opened object → IsNotHeldBack (λ frame. frame) longest object taken asked before now)
      → IfTold held left name (λ object body. NotHeldBack longest object body taken before now)
  all_early one taken early = about_opened held left name size opened _ opens (λ object body tells is other asks.
      subst (λ (a : Asked). IsNotHeldBack (λ frame. frame) longest object taken a before now)
      (one body asked other (prepared left asked body read is) asks) (early object tells))

-- ---- what is read

told_near : (longest size : ℕ) (told : Option (List ℕ)) (opened : Opened) (asked : Asked) (body : List ℕ) (before now : ℕ) → EachAsksOneThing → Prepares body asked
    → opened ≡ Some (size, told) → now ≤ before + most_read_of longest size asked → TookNear longest opened body before now
told_near longest size told opened asked body before now one asks is near =
    subst (λ (o : Opened). TookNear longest o body before now) (sym is)
    (λ other others. subst (λ (a : Asked). now ≤ before + most_read_of longest size a) (one body asked other asks others) near)

told_near_tiles : (longest size : ℕ) (told : Option (List ℕ)) (opened : Opened) (asked : Asked) (body cuts : List ℕ) (before now : ℕ) → EachAsksOneThing
    → Prepares body asked → opened ≡ Some (size, told) → now ≤ before + most_read_of_all longest size (tiles_of asked cuts)
    → TookNearTiles longest opened body cuts before now
told_near_tiles longest size told opened asked body cuts before now one asks is near =
    subst (λ (o : Opened). TookNearTiles longest o body cuts before now) (sym is)
    (λ other others. subst (λ (a : Asked). now ≤ before + most_read_of_all longest size (tiles_of a cuts)) (one body asked other asks others) near)

opened_is : (held : Option Objects) (name : List ℕ) (size : ℕ) (opened : Opened) (P : Opened → Type 0) → OpensName held name size opened
    → ((told : Option (List ℕ)) → opened ≡ Some (size, told) → P opened) → P opened
opened_is None name size opened P opens each = each None opens
opened_is (Some objects) name size opened P opens each = each (Some opens.0) opens.3

body_near : (left : Option (List ℕ)) (P : List ℕ → Type 0) (Q : List ℕ → Type 0) → IfSome left P → ((body : List ℕ) → P body → Q body) → IfSome left Q
body_near None P Q all each = tt
body_near (Some body) P Q all each = each body all

pub near_opened : (longest : ℕ) (held : Option Objects) (left : Option (List ℕ)) (name : List ℕ) (size : ℕ) (opened : Opened) (asked : Asked) (before first now : ℕ)
    → EachAsksOneThing → OpensName held name size opened → IfSome left (λ body. Prepares body asked) → first ≡ before
    → now ≤ first + most_read_of longest size asked → IfSome left (λ body. TookNear longest opened body before now)
near_opened longest held left name size opened asked before first now one opens read unread near =
    opened_is held name size opened (λ o. IfSome left (λ body. TookNear longest o body before now)) opens (λ told is.
    body_near left (λ body. Prepares body asked) (λ body. TookNear longest opened body before now) read
    (λ body asks. told_near longest size told opened asked body before now one asks is (omega (arith, unread, near))))

pub near_opened_tiles : (longest : ℕ) (held : Option Objects) (left : Option (List ℕ)) (name : List ℕ) (size : ℕ) (opened : Opened) (asked : Asked) (cuts : List ℕ)
    (before first now : ℕ) → EachAsksOneThing → OpensName held name size opened → IfSome left (λ body. Prepares body asked) → first ≡ before
    → now ≤ first + most_read_of_all longest size (tiles_of asked cuts) → IfSome left (λ body. TookNearTiles longest opened body cuts before now)
near_opened_tiles longest held left name size opened asked cuts before first now one opens read unread near =
    opened_is held name size opened (λ o. IfSome left (λ body. TookNearTiles longest o body cuts before now)) opens (λ told is.
    body_near left (λ body. Prepares body asked) (λ body. TookNearTiles longest opened body cuts before now) read
    (λ body asks. told_near_tiles longest size told opened asked body cuts before now one asks is (omega (arith, unread, near))))
