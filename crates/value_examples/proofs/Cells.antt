-- The cells of a record of JSON.
use Rattle.std.proofs.Common.{◌≡◌, ◌≢◌, ℕ, zero, suc, [], ◌∷◌, refl}
use Rattle.sql_value.specs.declared.value.Value.{Value}
use Rattle.sql_value.specs.declared.value.Value.TheVariants.{Missing}
use Rattle.sql_eval.specs.Rows.{cell_at}

-- past the one cell all is MISSING
pub one_cell : (cell : Value) (place : ℕ) → place ≢ 0 → cell_at (cell ∷ []) place ≡ Missing
one_cell cell zero past = absurd (past refl)
one_cell cell (suc place) past = refl
