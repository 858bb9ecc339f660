-- The promise of specs/Agreement, proved.
use Rattle.agreement.specs.State.{told}
use Rattle.agreement.specs.Agreement.{Agreement}
use Rattle.agreement.proofs.Merging.{on-chain-total}
use Rattle.agreement.proofs.Invariant.{Invariant}
use Rattle.agreement.proofs.Preserved.{reached_has}
use Rattle.agreement.proofs.FromAsks.{handed-from-asks}

pub agreement : Agreement
agreement 𝓢 first s r = record {
  comparable = λ a b i j. on-chain-total I.network.chain a.book b.book (I.handed a i).on (I.handed b j).on;
  own_ask = λ a i. (I.handed a i).own;
  from_asks = handed-from-asks r;
  shown_stays = λ a i. (I.handed a i).all_shown;
}
  where
    I : Invariant (told first) s
    I = reached_has r
