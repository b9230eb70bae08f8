-- Words that are passed inside a part, as the parser reads them.
use Rattle.std.proofs.Common.{◌≡◌, true, false, List, [], ◌∷◌, drop, None, refl}
use Rattle.sql_tokens.specs.declared.class.Class.{Class}
use Rattle.sql_tokens.specs.Cutting.{Symbol}
use Rattle.grammar_rules.specs.Readers.{found, failed, read_made, read_terminal, starts}
use Rattle.sql_grammar.specs.Marks.{of}
use Rattle.sql_grammar.specs.Expressions.{word}

pub word_refused : (c : Class) (ts : List Symbol) → starts (of c) ts ≡ false → read_terminal (word c) ts ≡ failed None ts
word_refused c [] h = refl
word_refused c (s ∷ ts) h = rw h refl

pub word_made : {B : Type 0} (c : Class) (b : B) (ts : List Symbol) → starts (of c) ts ≡ true → read_made (λ s. b) (read_terminal (word c) ts) ≡ found b (drop 1 ts)
word_made c b [] h = let p : false ≡ true = h in cc
word_made c b (s ∷ ts) h = rw h refl
