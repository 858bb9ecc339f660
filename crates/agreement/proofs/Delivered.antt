-- Deliver keeps the invariant: a box that hears a request or a commit, a tablet that hears or counts an answer or hears a commit.
use mathlib.Core.Path.{◌≡◌, refl, sym}
use mathlib.Core.Logic.{◌⊎◌, inl, inr}
use mathlib.Core.List.{List, ◌∷◌}
use Rattle.agreement.specs.Lattice.{Among}
use Rattle.agreement.specs.Setting.{Setting, Contents, Below}
use Rattle.agreement.specs.State.{Asking, asking, Answer, Network, State}
use Rattle.agreement.specs.Steps.{Merged, OnBox, with_answer, with_boxes, goes_on, BoxHearsRequest, BoxHearsCommit, Heard, an_answer, a_commit, TabletHears, TabletCounts}
use Rattle.agreement.proofs.Frames.{on-tablet, on-box}
use Rattle.agreement.proofs.Below.{below-refl}
use Rattle.agreement.proofs.Merging.{Held, merged-left, merged-right, merged-held, told-held}
use Rattle.agreement.proofs.Invariant.{GoodNetwork, HeardFrom, GoodAsking, GoodTablet, Invariant}
use Rattle.agreement.proofs.Growth.{Grows, tablet-grows, contents_grow, invariant-at}
use Rattle.agreement.proofs.Sending.{network-boxes, network-answer}

module _ {𝓢 : Setting} where
  -- ---- Boxes
  -- A box that merges something held grows and stays held.
  boxes-grow : {boxes boxes' : 𝓢.Box → Contents 𝓢} {r : 𝓢.Box} {y z : Contents 𝓢} → OnBox boxes boxes' r z → Merged (boxes r) y z
      → (q : 𝓢.Box) → Below (boxes q) (boxes' q)
  boxes-grow {boxes} o m = on-box (λ q x. Below (boxes q) x) o (merged-left m) (λ q. below-refl)

  boxes-held : {f : Contents 𝓢} {l : List (Contents 𝓢)} {n : Network 𝓢} {boxes' : 𝓢.Box → Contents 𝓢} {r : 𝓢.Box} {y z : Contents 𝓢}
      → GoodNetwork f l n → OnBox n.boxes boxes' r z → Merged (n.boxes r) y z → Held l y → (q : 𝓢.Box) → Held l (boxes' q)
  boxes-held {l = l} {r = r} N o m h = on-box (λ q x. Held l x) o (merged-held N.chain (N.boxes r) h m) N.boxes

  pub keeps-box-hears-commit : {f : Contents 𝓢} {s s' : State 𝓢} → Invariant f s → BoxHearsCommit s s' → Invariant f s'
  keeps-box-hears-commit {f} {s} I st =
      invariant-at I.elements st.network st.handed
      (network-boxes I.network st.boxes' (boxes-held I.network st.boxes st.merge (told-held (I.network.commits st.book st.sent))) up)
      (λ p. rw (st.tablets p) (tablet-grows grows (I.tablets p)))
      I.handed
    where
      up : (q : 𝓢.Box) → Below (s.network.boxes q) (st.boxes' q)
      up = boxes-grow st.boxes st.merge

      grows : {p : 𝓢.Tablet} → Grows p I.elements s.network I.elements (with_boxes s.network st.boxes')
      grows = record { elements = λ z i. i; old_answers = λ y i. i; new_answers = λ y i. inl i; requests = λ y i t. i; boxes = up }

  pub keeps-box-hears-request : {f : Contents 𝓢} {s s' : State 𝓢} → Invariant f s → BoxHearsRequest s s' → Invariant f s'
  keeps-box-hears-request {f} {s} I st =
      invariant-at I.elements st.network st.handed
      (network-answer (network-boxes I.network st.boxes' held' up) x st.boxes.now st.request st.sent refl refl (merged-right st.merge))
      (λ p. rw (st.tablets p) (tablet-grows grows (I.tablets p)))
      I.handed
    where
      up : (q : 𝓢.Box) → Below (s.network.boxes q) (st.boxes' q)
      up = boxes-grow st.boxes st.merge

      held' : (q : 𝓢.Box) → Held I.elements (st.boxes' q)
      held' = boxes-held I.network st.boxes st.merge (I.network.requests st.request st.sent)

      x : Answer 𝓢
      x = record { box = st.box; tablet = st.request.tablet; round = st.request.round; contents = st.after }

      new : (y : Answer 𝓢) → Among y (x ∷ s.network.answers)
          → Among y s.network.answers ⊎ Below (s.network.boxes y.box) y.contents
      new y (inl e) = inr (rw e (merged-left st.merge))
      new y (inr m) = inl m

      grows : {p : 𝓢.Tablet} → Grows p I.elements s.network I.elements (with_answer (with_boxes s.network st.boxes') x)
      grows = record { elements = λ z i. i; old_answers = λ y i. inr i; new_answers = new; requests = λ y i t. i; boxes = up }

  -- ---- Tablets
  heard-held : {f : Contents 𝓢} {s : State 𝓢} → (I : Invariant f s) → (y : Contents 𝓢) → Heard s y → Held I.elements y
  heard-held I y (an_answer a m) = (I.network.answers a m).held
  heard-held I y (a_commit b m) = told-held (I.network.commits b m)

  pub keeps-tablet-hears : {f : Contents 𝓢} {s s' : State 𝓢} → Invariant f s → TabletHears s s' → Invariant f s'
  keeps-tablet-hears {f} {s} I st =
      invariant-at I.elements st.network st.handed I.network
      (on-tablet (GoodTablet f I.elements s.network) st.moves here (λ q other. I.tablets q))
      I.handed
    where
      was : GoodTablet f I.elements s.network st.tablet (record { contents = st.before; round = st.round; phase = st.phase })
      was = rw st.moves.was at (I.tablets st.tablet)

      here : GoodTablet f I.elements s.network st.tablet (record { contents = st.after; round = st.round; phase = st.phase })
      here = record {
        held = merged-held I.network.chain was.held (heard-held I st.incoming st.heard) st.merge;
        rounds = was.rounds;
        phase = contents_grow f I.elements s.network st.tablet st.round (merged-left st.merge) st.phase was.phase;
      }

  pub keeps-tablet-counts : {f : Contents 𝓢} {s s' : State 𝓢} → Invariant f s → TabletCounts s s' → Invariant f s'
  keeps-tablet-counts {f} {s} I st =
      invariant-at I.elements st.network st.handed I.network
      (on-tablet (GoodTablet f I.elements s.network) st.moves here (λ q other. I.tablets q))
      I.handed
    where
      was : GoodTablet f I.elements s.network st.tablet (record { contents = st.before; round = st.round; phase = asking st.pending })
      was = rw st.moves.was at (I.tablets st.tablet)

      grown : GoodAsking f I.elements s.network st.tablet st.after st.round st.pending
      grown = contents_grow f I.elements s.network st.tablet st.round (merged-left st.merge) (asking st.pending) was.phase

      heard' : (r : 𝓢.Box) → 𝓢.BoxIn r st.pending.answered ⊎ (r ≡ st.answer.box)
          → HeardFrom s.network.answers st.tablet st.after st.round r
      heard' r (inl i) = grown.heard r i
      heard' r (inr e) = record {
        answer = st.answer;
        among = st.sent;
        box = sym e;
        tablet = st.own;
        round = st.current;
        below = merged-right st.merge;
      }

      still : Asking 𝓢
      still = goes_on st.pending st.pending.saved st.answered st.pending.floor

      counted : GoodAsking f I.elements s.network st.tablet st.after st.round still
      counted = record {
        saved = grown.saved;
        heard = λ r i. heard' r (st.marks r i);
        since = grown.since;
        history = grown.history;
        own = grown.own;
        floor = grown.floor;
      }

      here : GoodTablet f I.elements s.network st.tablet (record { contents = st.after; round = st.round; phase = asking still })
      here = record {
        held = merged-held I.network.chain was.held (I.network.answers st.answer st.sent).held st.merge;
        rounds = was.rounds;
        phase = counted;
      }
