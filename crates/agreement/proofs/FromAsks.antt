-- Nothing comes from elsewhere: a book that contains the first book and all that the accepted asks brought contains all that there is.
--   Within            what a device keeps is contained in the book
--   reached-within    so it is for every device, every message and every book handed back
--   handed-from-asks  the last of these alone
use mathlib.Core.Path.{◌≡◌, refl}
use mathlib.Core.Logic.{◌⊎◌, inl, inr}
use mathlib.Core.List.{List, ◌∷◌}
use Rattle.agreement.specs.Lattice.{AtMost, Among}
use Rattle.agreement.specs.Setting.{Setting, Book, Contents, Contained, decide}
use Rattle.agreement.specs.State.{TabletState, Request, Answer, Network, Handed, State, told}
use Rattle.agreement.specs.Steps.{Merged, Asked, OnTablet, OnBox, with_request, with_answer, with_commit, with_boxes, Heard, an_answer, a_commit, Step, ask, box_hears_request, box_hears_commit, tablet_hears, tablet_counts, next_round, commits, adopts, Run, start, next}
use Rattle.agreement.proofs.Order.{at-most-of-eq, at-most-trans, join-at-most, contained-of-eq, contained-trans}
use Rattle.agreement.proofs.Frames.{Every, every-cons, on-tablet, on-box}

module _ {𝓢 : Setting} where
  -- ---- Contents within a book
  record Within (all : Book 𝓢) (x : Contents 𝓢) : Type 0 where
    committed : Contained x.committed all
    candidates : AtMost 𝓢.notes x.candidates all.notes
    changes : (u : 𝓢.Configuration) → 𝓢.In u x.changes → AtMost 𝓢.configurations u all.configuration

  within-decide : {all : Book 𝓢} {x : Contents 𝓢} → Within all x → Contained (decide x) all
  within-decide {all} {x} h = record {
    notes = h.candidates;
    configuration = 𝓢.joined_least x.committed.configuration x.changes all.configuration h.committed.configuration h.changes;
  }

  within-told : {all b : Book 𝓢} → Contained b all → Within all (told b)
  within-told h = record { committed = h; candidates = h.notes; changes = λ u i. absurd (𝓢.in_no_changes u i) }

  within-merged : {all : Book 𝓢} {x y z : Contents 𝓢} → Within all x → Within all y → Merged x y z → Within all z
  within-merged {all} {x} {y} {z} h k m = record {
    committed = record {
      notes = at-most-trans (at-most-of-eq m.notes) (join-at-most h.committed.notes k.committed.notes);
      configuration = at-most-trans (at-most-of-eq m.configuration) (join-at-most h.committed.configuration k.committed.configuration);
    };
    candidates = at-most-trans (at-most-of-eq m.candidates) (join-at-most h.candidates k.candidates);
    changes = λ u i. go u (m.from u i);
  }
    where
      go : (u : 𝓢.Configuration) → 𝓢.In u x.changes ⊎ 𝓢.In u y.changes → AtMost 𝓢.configurations u all.configuration
      go u (inl i) = h.changes u i
      go u (inr i) = k.changes u i

  within-asked : {all b : Book 𝓢} {x z : Contents 𝓢} → Contained b all → Asked x b z → Within all x → Within all z
  within-asked {all} {b} {x} {z} k m h = record {
    committed = contained-trans (contained-of-eq m.committed) h.committed;
    candidates = at-most-trans (at-most-of-eq m.candidates) (join-at-most h.candidates k.notes);
    changes = λ u i. go u (m.from u i);
  }
    where
      go : (u : 𝓢.Configuration) → 𝓢.In u x.changes ⊎ (u ≡ b.configuration) → AtMost 𝓢.configurations u all.configuration
      go u (inl i) = h.changes u i
      go u (inr e) = rw e k.configuration

  -- ---- States within a book
  record WithinNetwork (all : Book 𝓢) (n : Network 𝓢) : Type 0 where
    boxes : (r : 𝓢.Box) → Within all (n.boxes r)
    requests : Every (λ (q : Request 𝓢). Within all q.contents) n.requests
    answers : Every (λ (x : Answer 𝓢). Within all x.contents) n.answers
    commits : Every (λ (b : Book 𝓢). Contained b all) n.commits

  record WithinState (all : Book 𝓢) (s : State 𝓢) : Type 0 where
    tablets : (p : 𝓢.Tablet) → Within all (s.tablets p).contents
    network : WithinNetwork all s.network
    handed : Every (λ (h : Handed 𝓢). Contained h.book all) s.handed

  within-at : {all : Book 𝓢} {s : State 𝓢} {n : Network 𝓢} {handed : List (Handed 𝓢)} → s.network ≡ n → s.handed ≡ handed
      → ((p : 𝓢.Tablet) → Within all (s.tablets p).contents) → WithinNetwork all n
      → Every (λ (h : Handed 𝓢). Contained h.book all) handed → WithinState all s
  within-at e i T N H = record { tablets = T; network = rw e N; handed = λ h m. H h (rw i at m) }

  -- The tablet that acts goes from contents within to contents within.
  moved : {all : Book 𝓢} {s s' : State 𝓢} {p : 𝓢.Tablet} {t t' : TabletState 𝓢} → WithinState all s → OnTablet s s' p t t'
      → (Within all t.contents → Within all t'.contents) → (q : 𝓢.Tablet) → Within all (s'.tablets q).contents
  moved {all} {p = p} W o g = on-tablet (λ q t. Within all t.contents) o (g (rw o.was at (W.tablets p))) (λ q other. W.tablets q)

  request-within : {all : Book 𝓢} {n : Network 𝓢} → WithinNetwork all n → (q : Request 𝓢) → Within all q.contents
      → WithinNetwork all (with_request n q)
  request-within {all} {n} N q h = record {
    boxes = N.boxes;
    requests = every-cons (λ (y : Request 𝓢). Within all y.contents) q n.requests h N.requests;
    answers = N.answers;
    commits = N.commits;
  }

  boxes-within : {all : Book 𝓢} {n : Network 𝓢} {boxes' : 𝓢.Box → Contents 𝓢} {r : 𝓢.Box} {z : Contents 𝓢} → WithinNetwork all n
      → OnBox n.boxes boxes' r z → Within all z → WithinNetwork all (with_boxes n boxes')
  boxes-within {all} N o h = record {
    boxes = on-box (λ q x. Within all x) o h N.boxes;
    requests = N.requests;
    answers = N.answers;
    commits = N.commits;
  }

  answer-within : {all : Book 𝓢} {n : Network 𝓢} → WithinNetwork all n → (x : Answer 𝓢) → Within all x.contents
      → WithinNetwork all (with_answer n x)
  answer-within {all} {n} N x h = record {
    boxes = N.boxes;
    requests = N.requests;
    answers = every-cons (λ (y : Answer 𝓢). Within all y.contents) x n.answers h N.answers;
    commits = N.commits;
  }

  commit-within : {all : Book 𝓢} {n : Network 𝓢} → WithinNetwork all n → (b : Book 𝓢) → Contained b all
      → WithinNetwork all (with_commit n b)
  commit-within {all} {n} N b h = record {
    boxes = N.boxes;
    requests = N.requests;
    answers = N.answers;
    commits = every-cons (λ (y : Book 𝓢). Contained y all) b n.commits h N.commits;
  }

  handed-within : {all : Book 𝓢} {s : State 𝓢} → WithinState all s → (h : Handed 𝓢) → Contained h.book all
      → Every (λ (k : Handed 𝓢). Contained k.book all) (h ∷ s.handed)
  handed-within {all} {s} W h b = every-cons (λ (k : Handed 𝓢). Contained k.book all) h s.handed b W.handed

  heard-within : {all : Book 𝓢} {s : State 𝓢} → WithinState all s → (y : Contents 𝓢) → Heard s y → Within all y
  heard-within W y (an_answer a m) = W.network.answers a m
  heard-within W y (a_commit b m) = within-told (W.network.commits b m)

  -- ---- Steps
  step-within : {all : Book 𝓢} {s s' : State 𝓢} → Every (λ (b : Book 𝓢). Contained b all) s'.asks → WithinState all s → Step s s'
      → WithinState all s'
  step-within {all} {s} A W (ask st) =
      let b : Contained st.brought all = A st.brought (rw st.asks (inl refl)) in
      let z : Within all st.after = within-asked b st.merge (rw st.moves.was at (W.tablets st.tablet)) in
      within-at st.network st.handed (moved W st.moves (λ h. z)) (request-within W.network _ z) W.handed
  step-within {all} {s} A W (box_hears_request st) =
      let z : Within all st.after = within-merged (W.network.boxes st.box) (W.network.requests st.request st.sent) st.merge in
      within-at st.network st.handed (λ p. rw (st.tablets p) (W.tablets p)) (answer-within (boxes-within W.network st.boxes z) _ z) W.handed
  step-within {all} {s} A W (box_hears_commit st) =
      let z : Within all st.after = within-merged (W.network.boxes st.box) (within-told (W.network.commits st.book st.sent)) st.merge in
      within-at st.network st.handed (λ p. rw (st.tablets p) (W.tablets p)) (boxes-within W.network st.boxes z) W.handed
  step-within A W (tablet_hears st) =
      within-at st.network st.handed (moved W st.moves (λ h. within-merged h (heard-within W st.incoming st.heard) st.merge)) W.network W.handed
  step-within A W (tablet_counts st) =
      within-at st.network st.handed (moved W st.moves (λ h. within-merged h (W.network.answers st.answer st.sent) st.merge)) W.network W.handed
  step-within {all} A W (next_round st) =
      let x : Within all st.contents = rw st.moves.was at (W.tablets st.tablet) in
      within-at st.network st.handed (moved W st.moves (λ h. h)) (request-within W.network _ x) W.handed
  step-within {all} A W (commits st) =
      let x : Within all st.contents = rw st.moves.was at (W.tablets st.tablet) in
      within-at st.network st.handed (moved W st.moves (λ h. h)) (commit-within W.network (decide st.contents) (within-decide x)) (handed-within W _ (within-decide x))
  step-within {all} A W (adopts st) =
      let x : Within all st.contents = rw st.moves.was at (W.tablets st.tablet) in
      within-at st.network st.handed (moved W st.moves (λ h. h)) W.network (handed-within W _ x.committed)

  -- No ask is forgotten.
  asks-stay : {s s' : State 𝓢} → Step s s' → (a : Book 𝓢) → Among a s.asks → Among a s'.asks
  asks-stay (ask st) a m = rw st.asks (inr m)
  asks-stay (box_hears_request st) a m = rw st.asks m
  asks-stay (box_hears_commit st) a m = rw st.asks m
  asks-stay (tablet_hears st) a m = rw st.asks m
  asks-stay (tablet_counts st) a m = rw st.asks m
  asks-stay (next_round st) a m = rw st.asks m
  asks-stay (commits st) a m = rw st.asks m
  asks-stay (adopts st) a m = rw st.asks m

  reached-within : {first : Book 𝓢} {s : State 𝓢} → Run first s → (all : Book 𝓢) → Contained first all
      → Every (λ (b : Book 𝓢). Contained b all) s.asks → WithinState all s
  reached-within (start F) all h A = record {
    tablets = λ p. rw (F.tablets p) (within-told h);
    network = record {
      boxes = λ r. rw (F.boxes r) (within-told h);
      requests = λ q m. absurd (rw F.no_requests at m);
      answers = λ x m. absurd (rw F.no_answers at m);
      commits = λ b m. absurd (rw F.no_commits at m);
    };
    handed = λ b m. absurd (rw F.no_handed at m);
  }
  reached-within (next r st) all h A = step-within A (reached-within r all h (λ a m. A a (asks-stay st a m))) st

  -- Each book handed back is contained in such a book.
  pub handed-from-asks : {first : Book 𝓢} {s : State 𝓢} → Run first s → (all : Book 𝓢) → Contained first all
      → ((b : Book 𝓢) → Among b s.asks → Contained b all) → (a : Handed 𝓢) → Among a s.handed → Contained a.book all
  handed-from-asks r all h A = (reached-within r all h A).handed
