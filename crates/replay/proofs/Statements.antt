-- The statements of specs/Statements hold.
use Prim.Native.Nat.{ℕ}
use mathlib.Core.Bool.{Bool, true, false}
use mathlib.Core.Path.{◌≡◌, refl, sym, ap, ◌∙◌}
use borrow.Author.Tests.{ltb-true}
use Rattle.sets.specs.Choice.{pick}
use Rattle.sets.specs.Settles.{equation-settles}
use Rattle.tape.specs.Edition.{first_edition}
use Rattle.tape.specs.Writing.{is_step}
use Rattle.replay.specs.Replay.{step_of, decoded_number}
use Rattle.replay.specs.Statements.{Statements}
use Rattle.replay.proofs.Words.{step-none}
use Rattle.replay.proofs.Accepted.{word-plays, accepted-plays}
use Rattle.replay.proofs.OneTape.{word-of-step, word-settled, tape-settled}

numbered : (word : ℕ) → decoded_number (step_of word) ≡ pick (is_step first_edition word) 0 14
numbered word = go (is_step first_edition word) refl
  where
    go : (b : Bool) → is_step first_edition word ≡ b → decoded_number (step_of word) ≡ pick b 0 14
    go true e = ap decoded_number (word-plays word (ltb-true 0 _ e)).is
    go false e = ap decoded_number (sym (step-none word e))

pub statements : Statements
statements =
    record {
      settled =
          record {
            decode = λ word. equation-settles _;
            play_word = λ word run x y p q. p.settled ∙ sym q.settled;
          };
      numbered = numbered;
      has_word = word-of-step;
      one_word = word-settled;
      one_tape = tape-settled;
      accepted = accepted-plays;
    }
