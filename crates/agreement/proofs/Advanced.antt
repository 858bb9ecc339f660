-- Ask and Advance keep the invariant.
--   floor-when-steady    in a steady and allowed round decide is a good floor: it has the ask, and by Shown all that was shown before
--   commit-when-steady   with candidates unchanged too, each counted answer equals the tablet's contents: the evidence of a commit
--   keeps-ask, keeps-next-round, keeps-commits, keeps-adopts
use Rattle.std.specs.Prelude.{Option}
use Prim.Native.Nat.{ℕ, suc, ◌≤◌}
use mathlib.Core.Path.{◌≡◌, refl, sym, ◌∙◌}
use mathlib.Core.Logic.{inl, inr}
use mathlib.Core.List.{List, [], ◌∷◌}
use native.Mathlib.Omega.{arith}
use Rattle.agreement.specs.Lattice.{Among}
use Rattle.agreement.specs.Setting.{Setting, Book, Contents, Contained, decide, Below}
use Rattle.agreement.specs.State.{Asking, idle, asking, Answer, Network, Handed, State, books}
use Rattle.agreement.specs.Steps.{Steady, Allowed, with_commit, began, goes_on, gets, Floored, stays, set, Ask, NextRound, Commits, Adopts}
use Rattle.agreement.proofs.Order.{at-most-of-eq, contained-refl, contained-of-eq, contained-trans}
use Rattle.agreement.proofs.Below.{below-refl, below-trans}
use Rattle.agreement.proofs.Frames.{Every, every-cons, on-tablet}
use Rattle.agreement.proofs.Chain.{chain-map}
use Rattle.agreement.proofs.Insertion.{Extended, insert}
use Rattle.agreement.proofs.Shown.{Kept, kept-book, shown-core}
use Rattle.agreement.proofs.Merging.{OnChain, Held, on-chain-more, held_more, held-parent, asked-own, asked-held}
use Rattle.agreement.proofs.Evidence.{AnsweredBy, CommitEvidence, evidence-meets, evidence-held}
use Rattle.agreement.proofs.Invariant.{GoodNetwork, GoodFloor, FloorFits, SinceAsk, GoodAsking, GoodTablet, GoodHanded, Invariant}
use Rattle.agreement.proofs.Growth.{Grows, tablet-grows, invariant-at}
use Rattle.agreement.proofs.Sending.{network-commit, keeps-begins}

module _ {𝓢 : Setting} where
  -- ---- A steady, allowed round
  -- What was asked of the saved contents was asked of these.
  steady-allowed : {x y : Contents 𝓢} (A : 𝓢.Boxes) → Steady y x → Allowed y A → Allowed x A
  steady-allowed A e allowed w q = allowed w (record { subset = q.subset; within = λ u i. e.back u (q.within u i); joined = rw e.configuration q.joined })

  steady-below : {x y : Contents 𝓢} → Steady x y → x.candidates ≡ y.candidates → Below y x
  steady-below e c = record {
    configuration = at-most-of-eq (sym e.configuration);
    candidates = at-most-of-eq (sym c);
    changes = λ u i. inr (e.back u i);
  }

  floor-when-steady : {f : Contents 𝓢} {l : List (Contents 𝓢)} {n : Network 𝓢} {p : 𝓢.Tablet} {x : Contents 𝓢} {k : ℕ} {a : Asking 𝓢}
      → GoodNetwork f l n → Held l x → GoodAsking f l n p x k a → Steady a.saved x → Allowed a.saved a.answered
      → GoodFloor a.asked a.shown x (decide x)
  floor-when-steady {f} {l} {n} {p} {x} {k} {a} N H h steady allowed = record {
    own = h.own;
    all_shown = all-shown';
    under = contained-refl;
  }
    where
      -- the boxes that answered had, when the ask was accepted, no more than x has now
      above : (r : 𝓢.Box) → 𝓢.BoxIn r a.answered → Below (h.history.snapshot r) x
      above r i =
          let d = h.heard r i in
          let c : a.first_round ≤ d.answer.round = omega (arith, h.since, d.round) in
          below-trans (rw d.box at (h.history.later d.answer d.among d.tablet c)) d.below

      kept : (d : Contents 𝓢) → Among d h.history.elements → Kept x d
      kept =
          shown-core h.history.snapshot x a.answered (steady-allowed a.answered steady allowed) above
          f (CommitEvidence n.answers) l N.chain H.on.at H.on.among (held-parent H) h.history.chain h.history.still

      all-shown' : (b : Book 𝓢) → Among b a.shown → Contained b (decide x)
      all-shown' b m = let d = h.history.all_shown b m in contained-trans (contained-of-eq d.book) (kept-book (kept d.at d.among))

  commit-when-steady : {f : Contents 𝓢} {l : List (Contents 𝓢)} {n : Network 𝓢} {p : 𝓢.Tablet} {x : Contents 𝓢} {k : ℕ} {a : Asking 𝓢}
      → GoodNetwork f l n → GoodAsking f l n p x k a → Steady a.saved x → a.saved.candidates ≡ x.candidates
      → Allowed a.saved a.answered → CommitEvidence n.answers x
  commit-when-steady {f} {l} {n} {p} {x} {k} {a} N h steady candidates allowed = record {
    boxes = a.answered;
    quorum = steady-allowed a.answered steady allowed;
    answered = go;
  }
    where
      go : (r : 𝓢.Box) → 𝓢.BoxIn r a.answered → AnsweredBy n.answers x r
      go r i =
          let d = h.heard r i in
          let w = N.answers d.answer d.among in
          let m : w.request.contents ≡ a.saved = h.saved w.request w.among (w.tablet ∙ d.tablet) (w.round ∙ d.round) in
          record {
            answer = d.answer;
            among = d.among;
            box = d.box;
            lower = below-trans (steady-below steady candidates) (rw m at w.lower);
            upper = d.below;
          }

  -- What Advance makes of a good floor is one.
  floored-fits : {x : Contents 𝓢} {a : Asking 𝓢} {floor : Option (Book 𝓢)} → Floored x a floor
      → FloorFits a.asked a.shown x a.floor
      → (Steady a.saved x → Allowed a.saved a.answered → GoodFloor a.asked a.shown x (decide x))
      → FloorFits a.asked a.shown x floor
  floored-fits stays h g = h
  floored-fits (set unset steady allowed) h g = g steady allowed

  -- ---- Ask
  books-on : {l : List (Contents 𝓢)} (handed : List (Handed 𝓢)) → Every (GoodHanded l) handed → Every (OnChain l) (books handed)
  books-on [] H b m = absurd m
  books-on (h ∷ hs) H b (inl e) = rw e (H h (inl refl)).on
  books-on (h ∷ hs) H b (inr m) = books-on hs (λ k n. H k (inr n)) b m

  pub keeps-ask : {f : Contents 𝓢} {s s' : State 𝓢} → Invariant f s → Ask s s' → Invariant f s'
  keeps-ask {f} {s} I st =
      keeps-begins I (record {
        request = record { tablet = st.tablet; round = suc st.round; contents = st.after };
        pending = began st.after st.answered st.brought (suc st.round) (books s.handed);
        before = record { contents = st.before; round = st.round; phase = idle };
        moves = st.moves;
        network = st.network;
        handed = st.handed;
        saved = refl;
        none_answered = st.none_answered;
        earlier = λ q i t. omega (arith, was.rounds q i t);
        held = asked-held st.merge was.held;
        since = omega arith;
        history = history;
        own = asked-own st.merge;
        floor = tt;
      })
    where
      was : GoodTablet f I.elements s.network st.tablet (record { contents = st.before; round = st.round; phase = idle })
      was = rw st.moves.was at (I.tablets st.tablet)

      -- no answer is of the new round yet
      later' : (x : Answer 𝓢) → Among x s.network.answers → x.tablet ≡ st.tablet → suc st.round ≤ x.round
          → Below (s.network.boxes x.box) x.contents
      later' x i t c = let w = I.network.answers x i in absurd (omega (arith, was.rounds w.request w.among (w.tablet ∙ t), w.round))

      history : SinceAsk f I.elements s.network.boxes s.network.answers st.tablet (suc st.round) (books s.handed)
      history = record {
        snapshot = s.network.boxes;
        elements = I.elements;
        chain = chain-map (evidence-held s.network.boxes (λ x i. (I.network.answers x i).upper)) I.network.chain;
        still = λ z i. i;
        all_shown = books-on s.handed I.handed;
        grown = λ r. below-refl;
        later = later';
      }

  -- ---- Advance
  pub keeps-next-round : {f : Contents 𝓢} {s s' : State 𝓢} → Invariant f s → NextRound s s' → Invariant f s'
  keeps-next-round {f} {s} I st =
      keeps-begins I (record {
        request = record { tablet = st.tablet; round = suc st.round; contents = st.contents };
        pending = goes_on st.pending st.contents st.answered st.floor;
        before = record { contents = st.contents; round = st.round; phase = asking st.pending };
        moves = st.moves;
        network = st.network;
        handed = st.handed;
        saved = refl;
        none_answered = st.none_answered;
        earlier = λ q i t. omega (arith, was.rounds q i t);
        held = was.held;
        since = omega (arith, was.phase.since);
        history = was.phase.history;
        own = was.phase.own;
        floor = floored-fits st.floored was.phase.floor (floor-when-steady I.network was.held was.phase);
      })
    where
      was : GoodTablet f I.elements s.network st.tablet (record { contents = st.contents; round = st.round; phase = asking st.pending })
      was = rw st.moves.was at (I.tablets st.tablet)

  pub keeps-adopts : {f : Contents 𝓢} {s s' : State 𝓢} → Invariant f s → Adopts s s' → Invariant f s'
  keeps-adopts {f} {s} I st =
      invariant-at I.elements st.network st.handed I.network
      (on-tablet (GoodTablet f I.elements s.network) st.moves here (λ q other. I.tablets q))
      (every-cons (GoodHanded I.elements) (gets st.pending st.contents.committed) s.handed new I.handed)
    where
      was : GoodTablet f I.elements s.network st.tablet (record { contents = st.contents; round = st.round; phase = asking st.pending })
      was = rw st.moves.was at (I.tablets st.tablet)

      here : GoodTablet f I.elements s.network st.tablet (record { contents = st.contents; round = st.round; phase = idle })
      here = record { held = was.held; rounds = was.rounds; phase = tt }

      floor : GoodFloor st.pending.asked st.pending.shown st.contents st.floor
      floor = floored-fits st.floored was.phase.floor (floor-when-steady I.network was.held was.phase)

      new : GoodHanded I.elements (gets st.pending st.contents.committed)
      new = record {
        on = was.held.on;
        own = contained-trans floor.own st.reached;
        all_shown = λ b m. contained-trans (floor.all_shown b m) st.reached;
      }

  pub keeps-commits : {f : Contents 𝓢} {s s' : State 𝓢} → Invariant f s → Commits s s' → Invariant f s'
  keeps-commits {f} {s} I st =
      invariant-at G.out st.network st.handed (network-commit I.network G)
      (on-tablet (GoodTablet f G.out n') st.moves here (λ q other. tablet-grows grows (I.tablets q)))
      (every-cons (GoodHanded G.out) (gets st.pending (decide st.contents)) s.handed new (λ h m. handed-more (I.handed h m)))
    where
      was : GoodTablet f I.elements s.network st.tablet (record { contents = st.contents; round = st.round; phase = asking st.pending })
      was = rw st.moves.was at (I.tablets st.tablet)

      evidence : CommitEvidence s.network.answers st.contents
      evidence = commit-when-steady I.network was.phase st.steady st.candidates st.allowed

      G : Extended f (CommitEvidence s.network.answers) st.contents I.elements
      G = insert (evidence-meets I.network.ordered evidence) evidence I.network.chain was.held.on.at was.held.on.among (held-parent was.held)

      more : (z : Contents 𝓢) → Among z I.elements → Among z G.out
      more = G.inserted.old

      n' : Network 𝓢
      n' = with_commit s.network (decide st.contents)

      here : GoodTablet f G.out n' st.tablet (record { contents = st.contents; round = st.round; phase = idle })
      here = record { held = held_more more was.held; rounds = was.rounds; phase = tt }

      grows : {q : 𝓢.Tablet} → Grows q I.elements s.network G.out n'
      grows = record { elements = more; old_answers = λ x i. i; new_answers = λ x i. inl i; requests = λ y i t. i; boxes = λ r. below-refl }

      handed-more : {h : Handed 𝓢} → GoodHanded I.elements h → GoodHanded G.out h
      handed-more k = record { on = on-chain-more more k.on; own = k.own; all_shown = k.all_shown }

      floor : GoodFloor st.pending.asked st.pending.shown st.contents (decide st.contents)
      floor = floor-when-steady I.network was.held was.phase st.steady st.allowed

      new : GoodHanded G.out (gets st.pending (decide st.contents))
      new = record {
        on = record { at = st.contents; among = G.inserted.new; book = refl };
        own = floor.own;
        all_shown = floor.all_shown;
      }
