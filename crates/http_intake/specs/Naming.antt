-- The outcome of reading a name, where memory may be refused.
use Rattle.std.specs.Prelude.{◌≡◌, ℕ, List, Result, Ok, Err, String, string_bytes, ⊤}
use Rattle.http_intake.specs.declared.refusal.Refusal.{Refusal}
use Rattle.http_intake.specs.declared.target.TargetError.{TargetError}
use Rattle.http_intake.specs.declared.target.TargetError.TheVariants.{Refused, OutOfMemory}

-- the outcome is this one, or memory was refused
abbrev pub IsNamed : {A : Type 0} → Result (List ℕ) Refusal → Result (String A) TargetError → Type 0
IsNamed outcome (Ok name) = outcome ≡ Ok (string_bytes name)
IsNamed outcome (Err (Refused refusal)) = outcome ≡ Err refusal
IsNamed outcome (Err OutOfMemory) = ⊤
