-- What an answer says of what bytes spell.
use Rattle.std.proofs.Common.{◌≡◌, ℕ, List, length, Option, None, Some, refl, sym, subst}
use Rattle.std.specs.Prelude.{ℤ, Result, Ok, Err, MatchResult, IfOk, OnErr}
use Rattle.thrift_compact.specs.Varints.{IsBytes}
use Rattle.parquet_delta.specs.declared.deltas.DeltaFault.{DeltaFault}
use Rattle.parquet_delta.specs.declared.word.Word.{Word}
use Rattle.parquet_delta.specs.Lists.{ListState, IsOpened, list_at}
use Rattle.parquet_delta.specs.Spelling.{SpellsFront, SpellsNone}
use Rattle.parquet_delta.proofs.Found.{ListFound, list_found}
use Rattle.parquet_delta.proofs.Spelled.{not_spelled}

opened_found : (word : Word) (count : ℕ) (bytes : List ℕ) (state : ListState) (found : Option (List ℤ × List ℕ)) → IsBytes bytes → list_at word count bytes ≡ found
    → IsOpened bytes state found → ListFound word count state.used bytes state.left
opened_found word count bytes state None are is opened = absurd opened
opened_found word count bytes state (Some x) are is opened =
    subst (ListFound word count state.used bytes) (sym opened.0) (list_found word count state.used bytes x are is opened.1)

-- what a read answers
abbrev pub Answers : Word → ℕ → List ℕ → Result ListState DeltaFault → Type 0
Answers word count bytes r = MatchResult r (λ d. IsOpened bytes d (list_at word count bytes)) (λ _. list_at word count bytes ≡ None)

pub found_of : (word : Word) (count : ℕ) (bytes : List ℕ) (r : Result ListState DeltaFault) → IsBytes bytes → Answers word count bytes r
    → IfOk r (λ d. SpellsFront word d.left d.used bytes)
found_of word count bytes (Ok d) are answer = (opened_found word count bytes d (list_at word count bytes) are refl answer).front
found_of word count bytes (Err f) are answer = tt

pub count_of : (word : Word) (count : ℕ) (bytes : List ℕ) (r : Result ListState DeltaFault) → IsBytes bytes → Answers word count bytes r
    → IfOk r (λ d. length d.left ≡ count)
count_of word count bytes (Ok d) are answer = (opened_found word count bytes d (list_at word count bytes) are refl answer).many
count_of word count bytes (Err f) are answer = tt

pub refused_of : (word : Word) (count : ℕ) (bytes : List ℕ) (r : Result ListState DeltaFault) → Answers word count bytes r
    → OnErr r (SpellsNone word count bytes)
refused_of word count bytes (Ok d) answer = tt
refused_of word count bytes (Err f) answer = not_spelled word count bytes answer
