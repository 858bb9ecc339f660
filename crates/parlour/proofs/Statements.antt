-- The statements of specs/Statements hold (`statements`).
use Rattle.sets.specs.Settles.{Settles, equation-settles}
use Rattle.devices.specs.declared.Step.{Step}
use Rattle.state.specs.declared.Run.{Run}
use Rattle.state.specs.State.{fresh}
use Rattle.state.proofs.SlotLaws.{laid-lowest, laid-keeps, laid-count}
use Rattle.state.proofs.StateLaws.{sized_fresh, fresh-proper}
use Rattle.parlour.specs.Steps.{taken, StepPromise, may_unplug}
use Rattle.parlour.specs.Statements.{Statements}
use Rattle.parlour.proofs.ProperStays.{proper_stays, proper-not-1, ran-proper}
use Rattle.parlour.proofs.Others.{refused-leaves, others_stay}
use Rattle.parlour.proofs.Growth.{below-same, below-through, above_mine, above_theirs, step-grows}
use Rattle.parlour.proofs.Outstanding.{ran-outstanding}
use Rattle.parlour.proofs.Rounds.{rounds_move}

-- each contract holds an equation, and settles its result by the one law
step-settles : (step : Step) (run : Run) → Settles (StepPromise step run)
step-settles step run x y p q = equation-settles (taken step run) x y p.settled q.settled

pub statements : Statements
statements =
    record {
      settled =
          record {
            step = λ run step. step-settles step run;
            ask = λ run tablet notes added removed. step-settles _ run;
            advance = λ run tablet. step-settles _ run;
            deliver = λ run slot. step-settles _ run;
            lose = λ run slot. step-settles _ run;
            repeat = λ run slot. step-settles _ run;
            stop = λ run device. step-settles _ run;
            may_unplug = λ run number x y p q. equation-settles (may_unplug run number) x y p.settled q.settled;
          };
      refusals_leave = refused-leaves;
      others_stay = others_stay;
      proper_stays =
          record {
            fresh_is = fresh-proper;
            stays = proper_stays;
            never_1 = λ first steps step. proper-not-1 step _ (ran-proper (fresh first) steps (sized_fresh first).changes (fresh-proper first));
          };
      contents_grow =
          record {
            same = below-same;
            through = below-through;
            above_mine = above_mine;
            above_theirs = above_theirs;
            in_a_step = step-grows;
          };
      all_outstanding = λ first steps d l. ran-outstanding first steps d;
      rounds_move = rounds_move;
      lowest_free = λ ms slots. record { free = laid-lowest ms slots; filled = laid-keeps ms slots; enough = laid-count ms slots };
    }
