use Rattle.std.proofs.Common.{◌≡◌, ◌++◌, [], ◌∷◌, length}
use Rattle.text_view.specs.declared.like.Part.TheVariants.{Any}
use Rattle.text_view.specs.Shapes.{letters, letters_in}
use Rattle.text_view.proofs.shapes.shape_from_letters.Given as goal

abbrev pub invariant-each : goal.invariant-each
invariant-each l = record {
  whole : l.left ≡ letters (letters_in l.left) → l.parts ≡ letters (letters_in l.parts);
  front : l.left ≡ letters (letters_in l.left) ++ Any ∷ [] → l.parts ≡ letters (letters_in l.parts) ++ Any ∷ [];
}

abbrev pub decreases-each : goal.decreases-each
decreases-each l = length l.left
