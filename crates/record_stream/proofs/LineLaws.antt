-- What the lines of a window show of the records.
use Rattle.std.proofs.Common.{◌≡◌, ℕ, true, false, List, [], ◌∷◌, ◌++◌, length, Option, None, Some, refl, sym, ap, ◌∙◌, subst, append_assoc, append-nil}
use Rattle.std.proofs.lemmas.Bool.{le-ltb, lt-ltb}
use Rattle.line_window.specs.Cuts.{Cut, content}
use Rattle.line_window.specs.Answers.{IsNextCut}
use Rattle.line_window.specs.declared.line.Line.{Line}
use Rattle.line_window.specs.declared.line.Line.TheVariants.{At, TooLong, End}
use Rattle.select_reply.specs.declared.code.Code.{Code}
use Rattle.select_reply.specs.Yields.{Yield, Yielded, fails, is_fault}
use Rattle.select_reply.specs.Turns.{yielded}
use Rattle.record_stream.specs.Lines.{Lines, behind, is_too_long, failing, listed, cut_yield, gives, behind_cut, yields_of, behind_all}
use Rattle.record_stream.specs.LineTurns.{turn_at, turn_of, behind_line}
use Rattle.record_stream.specs.Turns.{Turn, passes, yields, ends, closes}
use Rattle.record_stream.proofs.StreamLaws.{Acts}

-- ---- one cut more

pub yields_of-append : (lines : Lines) (longest : ℕ) (xs ys : List Cut)
    → yields_of lines longest (xs ++ ys) ≡ yields_of lines longest xs ++ yields_of (behind_all lines longest xs) longest ys
yields_of-append lines longest [] ys = refl
yields_of-append lines longest (cut ∷ xs) ys =
    let next = behind_cut lines longest cut in
    ap (λ l. gives lines longest cut ++ l) (yields_of-append next longest xs ys)
    ∙ sym (append_assoc (gives lines longest cut) (yields_of next longest xs) (yields_of (behind_all next longest xs) longest ys))

pub behind_all-append : (lines : Lines) (longest : ℕ) (xs ys : List Cut) → behind_all lines longest (xs ++ ys) ≡ behind_all (behind_all lines longest xs) longest ys
behind_all-append lines longest [] ys = refl
behind_all-append lines longest (cut ∷ xs) ys = behind_all-append (behind_cut lines longest cut) longest xs ys

-- the records of one more cut
pub yields_more : (lines : Lines) (longest : ℕ) (done : List Cut) (p : Cut) (now : Lines) (zs : List Yielded) → now ≡ behind_all lines longest done
    → gives now longest p ≡ zs → yields_of lines longest (done ++ p ∷ []) ≡ yields_of lines longest done ++ zs
yields_more lines longest done p now zs here is =
    yields_of-append lines longest done (p ∷ [])
    ∙ ap (λ l. yields_of lines longest done ++ l)
    (append-nil (gives (behind_all lines longest done) longest p) ∙ ap (λ (l : Lines). gives l longest p) (sym here) ∙ is)

pub behind_more : (lines : Lines) (longest : ℕ) (done : List Cut) (p : Cut) (now next : Lines) → now ≡ behind_all lines longest done → next ≡ behind_cut now longest p
    → next ≡ behind_all lines longest (done ++ p ∷ [])
behind_more lines longest done p now next here is =
    is ∙ ap (λ (l : Lines). behind_cut l longest p) here ∙ sym (behind_all-append lines longest done (p ∷ []))

-- ---- what a line shows

-- it isn't the end
abbrev pub IsLine : Line → Type 0
IsLine (At start bytes whole) = Unit {0}
IsLine (TooLong start) = Unit {0}
IsLine End = ⊥

-- the turn shows the first of the cuts that were left, behind which these are left, and what is behind it
abbrev pub Shows : ℕ → Lines → Lines → List Cut → List Cut → Turn → Type 0
Shows longest now next before after passes = (cut : Cut) × (before ≡ cut ∷ after) × (next ≡ behind_cut now longest cut) × (gives now longest cut ≡ [])
Shows longest now next before after (yields y) =
    (cut : Cut) × (before ≡ cut ∷ after) × (next ≡ behind_cut now longest cut) × (z : Yielded) × (gives now longest cut ≡ z ∷ []) × Acts y z
Shows longest now next before after ends = ⊥
Shows longest now next before after (closes y) = ⊥

-- what a cut yields, by its length
gives_is : (lines : Lines) (longest : ℕ) (cut : Cut) → gives lines longest cut ≡ listed cut.start cut.whole (cut_yield lines longest cut)
unfolding gives
gives_is lines longest cut = refl

module _ (lines : Lines) (longest : ℕ) where
  short_is : (cut : Cut) → is_too_long longest cut ≡ false → cut_yield lines longest cut ≡ lines.of_content [] cut.start (content cut)
  short_is cut short = rw short refl

  long_is : (cut : Cut) → is_too_long longest cut ≡ true → cut_yield lines longest cut ≡ failing (lines.of_long cut.start)
  long_is cut long = rw long refl

  behind_short : (cut : Cut) → is_too_long longest cut ≡ false → behind lines cut.start (content cut) ≡ behind_cut lines longest cut
  unfolding behind_cut
  behind_short cut short = rw short refl

  behind_long : (cut : Cut) → is_too_long longest cut ≡ true → lines ≡ behind_cut lines longest cut
  unfolding behind_cut
  behind_long cut long = rw long refl

  content_shows : (next : Lines) (before after : List Cut) (cut : Cut) (found : Option Yield) → before ≡ cut ∷ after → next ≡ behind_cut lines longest cut
      → gives lines longest cut ≡ listed cut.start cut.whole found → Shows longest lines next before after (turn_at cut.start cut.whole found)
  content_shows next before after cut None first here is = (cut, first, here, is)
  content_shows next before after cut (Some g) first here is = (cut, first, here, yielded cut.start cut.whole g, is, (refl, refl, λ _. refl))

  long_shows : (next : Lines) (before after : List Cut) (cut : Cut) (found : Option Code) → before ≡ cut ∷ after → next ≡ behind_cut lines longest cut
      → gives lines longest cut ≡ listed cut.start cut.whole (failing found) → Shows longest lines next before after (turn_at cut.start 0 (failing found))
  long_shows next before after cut None first here is = (cut, first, here, is)
  long_shows next before after cut (Some code) first here is = (
    cut,
    first,
    here,
    yielded cut.start cut.whole (fails code),
    is,
    (refl, refl, λ fine. absurd (let faulty : is_fault (fails code) ≡ true = refl in cc)),
  )

  -- the next line of a window shows the first of the cuts that were left
  pub line_shows : (before after : List Cut) (last : ℕ) (line : Line) → IsLine line → IsNextCut longest before after line
      → Shows longest lines (behind_line lines line) before after (turn_of lines last line)
  line_shows before after last (At start bytes whole) inside next =
      let cut = next.cut in
      let is = next.shown in
      let short : is_too_long longest cut ≡ false = le-ltb longest (length cut.body) is.1.short in
      let Same : List ℕ → Type 0 = λ l. Shows longest lines (behind lines start l) before after (turn_at start whole (lines.of_content [] start l)) in
      let From : ℕ → Type 0 = λ q. Shows longest lines (behind lines q (content cut)) before after (turn_at q whole (lines.of_content [] q (content cut))) in
      let Of : ℕ → Type 0 = λ n. Shows longest lines (behind lines cut.start (content cut)) before after (turn_at cut.start n (lines.of_content [] cut.start (content cut))) in
      let here : gives lines longest cut ≡ listed cut.start cut.whole (lines.of_content [] cut.start (content cut)) =
      gives_is lines longest cut ∙ ap (listed cut.start cut.whole) (short_is cut short) in
      subst Same (sym is.1.bytes) (subst From (sym is.0) (subst Of (sym is.1.whole)
      (content_shows (behind lines cut.start (content cut)) before after cut (lines.of_content [] cut.start (content cut)) next.first (behind_short cut short) here)))
  line_shows before after last (TooLong start) inside next =
      let cut = next.cut in
      let is = next.shown in
      let long : is_too_long longest cut ≡ true = lt-ltb longest (length cut.body) is.1 in
      let From : ℕ → Type 0 = λ q. Shows longest lines lines before after (turn_at q 0 (failing (lines.of_long q))) in
      let here : gives lines longest cut ≡ listed cut.start cut.whole (failing (lines.of_long cut.start)) =
      gives_is lines longest cut ∙ ap (listed cut.start cut.whole) (long_is cut long) in
      subst From (sym is.0) (long_shows lines before after cut (lines.of_long cut.start) next.first (behind_long cut long) here)
  line_shows before after last End inside next = absurd inside
