-- The statements of specs/Statements hold.
use mathlib.Core.Path.{ap₂}
use Rattle.sets.specs.Settles.{equation-settles}
use Rattle.tape.specs.Statements.{Statements}
use Rattle.tape.proofs.Settled.{check-settled, read-settled, write-settled, check_reads}
use Rattle.tape.proofs.StepWords.{word-by-fields, word-may-hold}
use Rattle.tape.proofs.RoundTrip.{read_tape_lem, tape-again, read_written, written_again}
use Rattle.tape.proofs.CallsRoundTrip.{written-reads, read-writes}
use Rattle.tape.proofs.TapeLaws.{steps-most}

pub statements : Statements
statements =
    record {
      settled =
          record {
            tape_check = check-settled;
            read_tape =
                λ tape row x y p q. let e = read-settled tape row x.0 y.0 x.1 y.1 p q in ap₂ (λ r after. (r, after)) e.0 e.1;
            write_tape =
                λ first words buffer x y p q. let e = write-settled first words buffer x.0 y.0 x.1 y.1 p q in ap₂ (λ r after. (r, after)) e.0 e.1;
            is_step = λ word. equation-settles _;
            fields_of = λ word. equation-settles _;
          };
      step_words = λ ed. record { settled_by_fields = word-by-fields ed; fields_may_hold = word-may-hold ed };
      any_edition =
          λ ed. record {
            reads_back = λ head words long some all fits. read_tape_lem ed head words long some all fits;
            writes_back = λ tape words bytes e. (tape-again ed tape words bytes e).1;
            most_steps = λ tape words e. steps-most ed tape words e;
          };
      round_trip =
          record {
            read_written = read_written;
            written_again = written_again;
            write_then_read = written-reads;
            read_then_write = read-writes;
          };
      check_reads = check_reads;
    }
