-- Two rules that say the same: part by part, and that readers and answers carry over.
use Rattle.std.proofs.Common.{List, [], ◌∷◌, ◌++◌, Some, None}
use Rattle.grammar_rules.specs.Rules.{Rule, fits, faulty, made, sequence, either, Same}
use Rattle.grammar_rules.specs.Readers.{Outcome, found, failed}
use Rattle.grammar_rules.proofs.Clear.{Closed, Sight, Clear}
use Rattle.grammar_rules.proofs.Alternatives.{Within_refl, Within_trans}
use Rattle.grammar_rules.proofs.Depths.{within-made, within-sequence, within-either}
use Rattle.grammar_rules.proofs.Right.{Right}
use Rattle.grammar_rules.proofs.Reading.{Reads}

pub same_refl : {T K A : Type 0} (G : Rule T K A) → Same G G
same_refl G = record { there = Within_refl G; back = Within_refl G }

pub same_sym : {T K A : Type 0} (G H : Rule T K A) → Same G H → Same H G
same_sym G H s = record { there = s.back; back = s.there }

pub same_trans : {T K A : Type 0} (G H J : Rule T K A) → Same G H → Same H J → Same G J
same_trans G H J s t = record { there = Within_trans G H J s.there t.there; back = Within_trans J H G t.back s.back }

-- ---- parts

pub same-made : {T K A B : Type 0} (f : A → B) (G H : Rule T K A) → Same G H → Same (made f G) (made f H)
same-made f G H s = record { there = within-made f G H s.there; back = within-made f H G s.back }

pub same-sequence : {T K A B : Type 0} (G G' : Rule T K A) (H H' : A → Rule T K B) → Same G G' → ((a : A) → Same (H a) (H' a)) → Same (sequence G H) (sequence G' H')
same-sequence G G' H H' g h = record {
  there = within-sequence G G' H H' g.there (λ a. (h a).there);
  back = within-sequence G' G H' H g.back (λ a. (h a).back);
}

pub same-either : {T K A : Type 0} (G G' H H' : Rule T K A) → Same G G' → Same H H' → Same (either G H) (either G' H')
same-either G G' H H' g h = record {
  there = within-either G G' H H' g.there h.there;
  back = within-either G' G H' H g.back h.back;
}

-- ---- what carries over

module _ {T K A : Type 0} (G H : Rule T K A) (s : Same G H) where
  closed-same : Closed G → Closed H
  closed-same g = record {
    nil = s.there.front fits [] g.nil;
    spelled = λ a ts w. s.there.front fits ts (g.spelled a ts (s.back.spells a ts w));
    closed = λ m pre t r f. s.there.front fits pre (g.closed m pre t r (s.back.front m (pre ++ t ∷ r) f));
  }

  clear-same : (t : Sight T) → Clear G t → Clear H t
  clear-same t g = record {
    fronts = closed-same g.fronts;
    starts = λ m x r f. g.starts m x r (s.back.front m (x ∷ r) f);
    empty = λ a w. g.empty a (s.back.spells a [] w);
    goes_on = λ a pre m x r w f. g.goes_on a pre m x r (s.back.spells a pre w) (s.back.front m (pre ++ x ∷ r) f);
    single = λ a b ts w v. g.single a b ts (s.back.spells a ts w) (s.back.spells b ts v);
    last = λ k pre m r f x. g.last k pre m r (s.back.front (faulty k) pre f) (s.back.front m (pre ++ r) x);
  }

  right-same : (ts : List T) (o : Outcome T K A) → Right G ts o → Right H ts o
  right-same ts (found a left) w = record {
    pre = w.pre;
    is = w.is;
    spells = s.there.spells a w.pre w.spells;
    stops = λ t r m x e f. w.stops t r m x e (s.back.front m (w.pre ++ t ∷ x) f);
  }
  right-same ts (failed None left) w = record {
    pre = w.pre;
    is = w.is;
    front = s.there.front fits w.pre w.front;
    stops = λ t r m x e f. w.stops t r m x e (s.back.front m (w.pre ++ t ∷ x) f);
    unspelled = λ a v. w.unspelled a (s.back.spells a w.pre v);
  }
  right-same ts (failed (Some k) left) w = record {
    pre = w.pre;
    at = w.at;
    behind = w.behind;
    is = w.is;
    stands = w.stands;
    front = s.there.front (faulty k) (w.pre ++ w.at ∷ []) w.front;
  }

  -- what reads a factored rule reads the rule that it was made of
  pub reads-same : (t : Sight T) (read : List T → Outcome T K A) → Reads G t read → Reads H t read
  reads-same t read g = record {
    clear = clear-same t g.clear;
    exact = λ x e. let f = g.exact x e in (f.0, s.there.front f.0 (x ∷ []) f.1);
    empty = λ e. let w = g.empty e in (w.0, s.there.spells w.0 [] w.1);
    right = λ ts. right-same ts (read ts) (g.right ts);
  }
