-- A connection, turn by turn.
use Rattle.std.proofs.Common.{inl, ◌≡◌, ℕ, suc, ◌+◌, List, [], ◌++◌, Option, refl, sym, ap, ◌∙◌, subst, add-one, append_assoc}
use Rattle.select_ports.specs.Stored.{Objects}
use Rattle.network_ports.specs.Calls.{Link}
use Rattle.select_http.specs.Messages.{spelled}
use Rattle.select_http.specs.Endings.{requests_at, EndsBy, Serves}
use Rattle.select_http.specs.Turns.{Goes, Serving, Stops}
use Rattle.select_http.specs.declared.served.End.{End}
use Rattle.select_http.specs.declared.served.End.TheVariants.{OutOfMemory}
use Rattle.select_http.specs.declared.served.Served.{Served}
use Rattle.select_http.proofs.Progressing.{progress_as, progress_same, progress_then, quiet_then}

one_more : (longest : ℕ) (held : Option Objects) (a b c : Link) (count : ℕ) (x y : List ℕ) → Serving longest held a b count x
    → Goes longest held b c (suc count) x y → Serving longest held a c (suc count) y
one_more longest held a b c count x y s goes = record {
  came = s.came ++ spelled goes.message;
  wrote = s.wrote ++ goes.answer;
  exchanged = record {
    came_before = s.came;
    wrote_before = s.wrote;
    before = s.exchanged;
    message = goes.message;
    answer = goes.answer;
    answered = goes.answered;
    goes_on = goes.goes_on;
    came_is = refl;
    wrote_is = refl;
  };
  progress = progress_as held a c _ _ _ _ (progress_then held a b c (s.came ++ x) goes.took s.wrote goes.answer s.progress goes.progress)
      (append_assoc s.came x goes.took ∙ ap (λ l. s.came ++ l) goes.joined ∙ sym (append_assoc s.came (spelled goes.message) y)) refl;
  quiet = quiet_then a b c s.quiet goes.quiet;
}

pub serving_more : (longest : ℕ) (held : Option Objects) (a b c : Link) (count : ℕ) (x y : List ℕ) → Serving longest held a b count x
    → Goes longest held b c (count + 1) x y → Serving longest held a c (count + 1) y
serving_more longest held a b c count x y s goes =
    subst (λ n. Serving longest held a c n y) (sym (add-one count))
    (one_more longest held a b c count x y s (subst (λ n. Goes longest held b c n x y) (add-one count) goes))

pub serves : (longest : ℕ) (held : Option Objects) (a b c : Link) (count sa sb sc : ℕ) (x : List ℕ) (end : End) (served : Served)
    → Serving longest held a b count x → Stops longest held b c (count + 1) sb sc x end → served.end ≡ end
    → served.requests ≡ requests_at (count + 1) end → Serves longest held a c served
serves longest held a b c count sa sb sc x end served s stops is requests = record {
  count = count;
  came = s.came;
  wrote = s.wrote;
  exchanged = s.exchanged;
  rest = x ++ stops.took;
  sent = stops.sent;
  ended = subst (EndsBy longest held (suc count) (x ++ stops.took) stops.sent) (sym is)
      (subst (λ n. EndsBy longest held n (x ++ stops.took) stops.sent end) (add-one count) stops.ended);
  requests = requests ∙ ap (λ n. requests_at n end) (add-one count) ∙ ap (requests_at (suc count)) (sym is);
  progress = progress_as held a c _ _ _ _ (progress_then held a b c (s.came ++ x) stops.took s.wrote stops.sent s.progress stops.progress)
      (append_assoc s.came x stops.took) refl;
}

-- there was no memory to begin with
pub serves_none : (longest : ℕ) (held : Option Objects) (a : Link) → Serves longest held a a (record { requests = 0; end = OutOfMemory })
serves_none longest held a = record {
  count = 0;
  came = [];
  wrote = [];
  exchanged = (refl, refl);
  rest = [];
  sent = [];
  ended = inl refl;
  requests = refl;
  progress = progress_same held a;
}

-- the same, where the store holds at the turn what it held at first
pub stops_held : (longest : ℕ) (h held : Option Objects) (b c : Link) (number sb sc : ℕ) (x : List ℕ) (end : End) → h ≡ held
    → Stops longest h b c number sb sc x end → Stops longest held b c number sb sc x end
stops_held longest h held b c number sb sc x end same stops = subst (λ k. Stops longest k b c number sb sc x end) same stops

pub goes_held : (longest : ℕ) (h held : Option Objects) (b c : Link) (number : ℕ) (x y : List ℕ) → h ≡ held
    → Goes longest h b c number x y → Goes longest held b c number x y
goes_held longest h held b c number x y same goes = subst (λ k. Goes longest k b c number x y) same goes

pub serving_at : (longest : ℕ) (held : Option Objects) (a b : Link) (n m : ℕ) (x : List ℕ) → n ≡ m → Serving longest held a b n x
    → Serving longest held a b m x
serving_at longest held a b n m x same s = subst (λ k. Serving longest held a b k x) same s
