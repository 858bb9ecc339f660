-- What a line's step is written as: never a word that the tape reads as another step.
use Rattle.std.specs.Prelude.{◌≡◌, ℕ, Option, Some, None}
use Rattle.tape.specs.Edition.{first_edition}
use Rattle.tape.specs.Layout.{fields_in}
use Rattle.tape.specs.declared.Fields.{Fields}

-- a word that is given is read as these very fields
abbrev pub ReadAs : Option ℕ → Fields → Type 0
ReadAs (Some word) fields = fields_in first_edition word ≡ fields
ReadAs None fields = Unit {0}
