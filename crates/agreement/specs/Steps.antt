-- The steps of Figure 2, each a relation between the state before and the state after, and the runs that they make.
--
-- They allow at least what Figure 2 does: a merge need not trim, a request is heard by any box and an answer by any tablet, and a tablet
-- may begin a new round at any time. What is promised of all these runs holds of Figure 2's.
use Rattle.std.specs.Prelude.{ℕ, suc, ◌≡◌, ◌⊎◌, List, ◌∷◌, Option, Some, None}
use Rattle.agreement.specs.Lattice.{Among}
use Rattle.agreement.specs.Setting.{Setting, Book, Contents, Contained, decide, Queried, Knows}
use Rattle.agreement.specs.State.{Asking, Phase, idle, asking, TabletState, Request, Answer, Network, Handed, State, books, told, Fresh}

module _ {𝓢 : Setting} where
  -- ---- Merging
  -- z is x merged with y (lines 18 to 20): v joins v, candidates join, and z's changes are those of both that its configuration does not contain.
  pub record Merged (x y z : Contents 𝓢) : Type 0 where
    pub notes : z.committed.notes ≡ 𝓢.notes.join x.committed.notes y.committed.notes
    pub configuration : z.committed.configuration ≡ 𝓢.configurations.join x.committed.configuration y.committed.configuration
    pub candidates : z.candidates ≡ 𝓢.notes.join x.candidates y.candidates
    pub from : (u : 𝓢.Configuration) → 𝓢.In u z.changes → 𝓢.In u x.changes ⊎ 𝓢.In u y.changes
    pub left : (u : 𝓢.Configuration) → 𝓢.In u x.changes → Knows z u
    pub right : (u : 𝓢.Configuration) → 𝓢.In u y.changes → Knows z u

  -- z is x with the notes and the change that an ask brings (line 1): v stays, the candidates join the notes, the change joins T.
  pub record Asked (x : Contents 𝓢) (brought : Book 𝓢) (z : Contents 𝓢) : Type 0 where
    pub committed : z.committed ≡ x.committed
    pub candidates : z.candidates ≡ 𝓢.notes.join x.candidates brought.notes
    pub from : (u : 𝓢.Configuration) → 𝓢.In u z.changes → 𝓢.In u x.changes ⊎ (u ≡ brought.configuration)
    pub left : (u : 𝓢.Configuration) → 𝓢.In u x.changes → Knows z u
    pub right : Knows z brought.configuration

  -- ---- Tests
  -- Configuration and changes of x and y are the same (line 10).
  pub record Steady (x y : Contents 𝓢) : Type 0 where
    pub configuration : x.committed.configuration ≡ y.committed.configuration
    pub to : (u : 𝓢.Configuration) → 𝓢.In u x.changes → 𝓢.In u y.changes
    pub back : (u : 𝓢.Configuration) → 𝓢.In u y.changes → 𝓢.In u x.changes

  -- Every configuration that x queries has a quorum among the boxes that answered (line 9).
  abbrev pub Allowed : Contents 𝓢 → 𝓢.Boxes → Type 0
  Allowed x answered = (w : 𝓢.Configuration) → Queried x w → 𝓢.Quorum w answered

  -- ---- What stays
  -- Only tablet p changes, from t to t'.
  pub record OnTablet (s s' : State 𝓢) (p : 𝓢.Tablet) (t t' : TabletState 𝓢) : Type 0 where
    pub was : s.tablets p ≡ t
    pub now : s'.tablets p ≡ t'
    pub others : (q : 𝓢.Tablet) → (q ≡ p) ⊎ ((¬ (q ≡ p)) × (s'.tablets q ≡ s.tablets q))

  -- Only box r changes, to x.
  pub record OnBox (boxes boxes' : 𝓢.Box → Contents 𝓢) (r : 𝓢.Box) (x : Contents 𝓢) : Type 0 where
    pub now : boxes' r ≡ x
    pub others : (q : 𝓢.Box) → (q ≡ r) ⊎ (boxes' q ≡ boxes q)

  -- ---- What is sent
  abbrev pub with_request : Network 𝓢 → Request 𝓢 → Network 𝓢
  with_request n q = record { boxes = n.boxes; requests = q ∷ n.requests; answers = n.answers; commits = n.commits }

  abbrev pub with_answer : Network 𝓢 → Answer 𝓢 → Network 𝓢
  with_answer n a = record { boxes = n.boxes; requests = n.requests; answers = a ∷ n.answers; commits = n.commits }

  abbrev pub with_commit : Network 𝓢 → Book 𝓢 → Network 𝓢
  with_commit n b = record { boxes = n.boxes; requests = n.requests; answers = n.answers; commits = b ∷ n.commits }

  abbrev pub with_boxes : Network 𝓢 → (𝓢.Box → Contents 𝓢) → Network 𝓢
  with_boxes n boxes = record { boxes = boxes; requests = n.requests; answers = n.answers; commits = n.commits }

  -- ---- An ask that begins, goes on, and gets its book
  -- An ask that was just accepted: its contents are saved and its floor is unset.
  abbrev pub began : Contents 𝓢 → 𝓢.Boxes → Book 𝓢 → ℕ → List (Book 𝓢) → Asking 𝓢
  began saved answered brought round shown = record {
    saved = saved;
    answered = answered;
    floor = None;
    asked = brought;
    first_round = round;
    shown = shown;
  }

  -- The same ask, with other saved contents, answered boxes and floor.
  abbrev pub goes_on : Asking 𝓢 → Contents 𝓢 → 𝓢.Boxes → Option (Book 𝓢) → Asking 𝓢
  goes_on a saved answered floor = record {
    saved = saved;
    answered = answered;
    floor = floor;
    asked = a.asked;
    first_round = a.first_round;
    shown = a.shown;
  }

  -- The ask gets this book.
  abbrev pub gets : Asking 𝓢 → Book 𝓢 → Handed 𝓢
  gets a book = record { book = book; asked = a.asked; shown = a.shown }

  -- ---- The steps
  -- Ask (lines 1, 2 and 4 to 8): an idle tablet takes in what the ask brings, floor unset, and begins a round.
  pub record Ask (s s' : State 𝓢) : Type 0 where
    pub tablet : 𝓢.Tablet
    pub round : ℕ
    pub before : Contents 𝓢
    pub brought : Book 𝓢
    pub after : Contents 𝓢
    pub merge : Asked before brought after
    pub answered : 𝓢.Boxes
    pub none_answered : (r : 𝓢.Box) → 𝓢.BoxIn r answered → ⊥
    pub moves : OnTablet s s' tablet
        (record { contents = before; round = round; phase = idle })
        (record { contents = after; round = suc round; phase = asking (began after answered brought (suc round) (books s.handed)) })
    pub network : s'.network ≡ with_request s.network (record { tablet = tablet; round = suc round; contents = after })
    pub handed : s'.handed ≡ s.handed
    pub asks : s'.asks ≡ brought ∷ s.asks

  -- Deliver a request (lines 16 and 17): a box merges it and answers with its new contents and the request's round.
  pub record BoxHearsRequest (s s' : State 𝓢) : Type 0 where
    pub box : 𝓢.Box
    pub request : Request 𝓢
    pub sent : Among request s.network.requests
    pub after : Contents 𝓢
    pub merge : Merged (s.network.boxes box) request.contents after
    pub boxes' : 𝓢.Box → Contents 𝓢
    pub boxes : OnBox s.network.boxes boxes' box after
    pub network : s'.network ≡ with_answer (with_boxes s.network boxes')
        (record { box = box; tablet = request.tablet; round = request.round; contents = after })
    pub tablets : (p : 𝓢.Tablet) → s'.tablets p ≡ s.tablets p
    pub handed : s'.handed ≡ s.handed
    pub asks : s'.asks ≡ s.asks

  -- Deliver a commit to a box (line 16): it merges it, and a commit is not answered.
  pub record BoxHearsCommit (s s' : State 𝓢) : Type 0 where
    pub box : 𝓢.Box
    pub book : Book 𝓢
    pub sent : Among book s.network.commits
    pub after : Contents 𝓢
    pub merge : Merged (s.network.boxes box) (told book) after
    pub boxes' : 𝓢.Box → Contents 𝓢
    pub boxes : OnBox s.network.boxes boxes' box after
    pub network : s'.network ≡ with_boxes s.network boxes'
    pub tablets : (p : 𝓢.Tablet) → s'.tablets p ≡ s.tablets p
    pub handed : s'.handed ≡ s.handed
    pub asks : s'.asks ≡ s.asks

  -- What a tablet can hear: an answer, or a commit.
  pub data Heard (s : State 𝓢) : Contents 𝓢 → Type 0 where
    an_answer : (a : Answer 𝓢) → Among a s.network.answers → Heard s a.contents
    a_commit : (b : Book 𝓢) → Among b s.network.commits → Heard s (told b)

  -- Deliver to a tablet (line 16): it merges what it hears, and counts nothing.
  pub record TabletHears (s s' : State 𝓢) : Type 0 where
    pub tablet : 𝓢.Tablet
    pub round : ℕ
    pub phase : Phase 𝓢
    pub before : Contents 𝓢
    pub incoming : Contents 𝓢
    pub heard : Heard s incoming
    pub after : Contents 𝓢
    pub merge : Merged before incoming after
    pub moves : OnTablet s s' tablet
        (record { contents = before; round = round; phase = phase })
        (record { contents = after; round = round; phase = phase })
    pub network : s'.network ≡ s.network
    pub handed : s'.handed ≡ s.handed
    pub asks : s'.asks ≡ s.asks

  -- Deliver an answer of the asking tablet's own round (lines 9 and 16): it merges the answer and marks the box.
  pub record TabletCounts (s s' : State 𝓢) : Type 0 where
    pub tablet : 𝓢.Tablet
    pub round : ℕ
    pub pending : Asking 𝓢
    pub before : Contents 𝓢
    pub answer : Answer 𝓢
    pub sent : Among answer s.network.answers
    pub own : answer.tablet ≡ tablet
    pub current : answer.round ≡ round
    pub after : Contents 𝓢
    pub merge : Merged before answer.contents after
    pub answered : 𝓢.Boxes
    pub marks : (r : 𝓢.Box) → 𝓢.BoxIn r answered → 𝓢.BoxIn r pending.answered ⊎ (r ≡ answer.box)
    pub moves : OnTablet s s' tablet
        (record { contents = before; round = round; phase = asking pending })
        (record { contents = after; round = round; phase = asking (goes_on pending pending.saved answered pending.floor) })
    pub network : s'.network ≡ s.network
    pub handed : s'.handed ≡ s.handed
    pub asks : s'.asks ≡ s.asks

  -- What Advance makes of the floor (lines 9 to 11): it stays, or it was unset, the round is allowed and steady, and it becomes decide.
  pub data Floored (x : Contents 𝓢) (pending : Asking 𝓢) : Option (Book 𝓢) → Type 0 where
    stays : Floored x pending pending.floor
    set : pending.floor ≡ None → Steady pending.saved x → Allowed pending.saved pending.answered
        → Floored x pending (Some (decide x))

  -- Advance to a new round (lines 3 to 8).
  pub record NextRound (s s' : State 𝓢) : Type 0 where
    pub tablet : 𝓢.Tablet
    pub round : ℕ
    pub pending : Asking 𝓢
    pub contents : Contents 𝓢
    pub floor : Option (Book 𝓢)
    pub floored : Floored contents pending floor
    pub answered : 𝓢.Boxes
    pub none_answered : (r : 𝓢.Box) → 𝓢.BoxIn r answered → ⊥
    pub moves : OnTablet s s' tablet
        (record { contents = contents; round = round; phase = asking pending })
        (record { contents = contents; round = suc round; phase = asking (goes_on pending contents answered floor) })
    pub network : s'.network ≡ with_request s.network (record { tablet = tablet; round = suc round; contents = contents })
    pub handed : s'.handed ≡ s.handed
    pub asks : s'.asks ≡ s.asks

  -- Advance that commits (lines 9, 10 and 12 to 14): allowed, steady, no new candidate; decide is sent and handed back.
  pub record Commits (s s' : State 𝓢) : Type 0 where
    pub tablet : 𝓢.Tablet
    pub round : ℕ
    pub pending : Asking 𝓢
    pub contents : Contents 𝓢
    pub allowed : Allowed pending.saved pending.answered
    pub steady : Steady pending.saved contents
    pub candidates : pending.saved.candidates ≡ contents.candidates
    pub moves : OnTablet s s' tablet
        (record { contents = contents; round = round; phase = asking pending })
        (record { contents = contents; round = round; phase = idle })
    pub network : s'.network ≡ with_commit s.network (decide contents)
    pub handed : s'.handed ≡ gets pending (decide contents) ∷ s.handed
    pub asks : s'.asks ≡ s.asks

  -- Advance that adopts (line 15): a set floor is contained in v, and v is handed back.
  pub record Adopts (s s' : State 𝓢) : Type 0 where
    pub tablet : 𝓢.Tablet
    pub round : ℕ
    pub pending : Asking 𝓢
    pub contents : Contents 𝓢
    pub floor : Book 𝓢
    pub floored : Floored contents pending (Some floor)
    pub reached : Contained floor contents.committed
    pub moves : OnTablet s s' tablet
        (record { contents = contents; round = round; phase = asking pending })
        (record { contents = contents; round = round; phase = idle })
    pub network : s'.network ≡ s.network
    pub handed : s'.handed ≡ gets pending contents.committed ∷ s.handed
    pub asks : s'.asks ≡ s.asks

  pub data Step (s s' : State 𝓢) : Type 0 where
    ask : Ask s s' → Step s s'
    box_hears_request : BoxHearsRequest s s' → Step s s'
    box_hears_commit : BoxHearsCommit s s' → Step s s'
    tablet_hears : TabletHears s s' → Step s s'
    tablet_counts : TabletCounts s s' → Step s s'
    next_round : NextRound s s' → Step s s'
    commits : Commits s s' → Step s s'
    adopts : Adopts s s' → Step s s'

  -- ---- Runs: the states that steps reach from a fresh one
  pub data Run (first : Book 𝓢) : State 𝓢 → Type 0 where
    start : {s : State 𝓢} → Fresh first s → Run first s
    next : {s s' : State 𝓢} → Run first s → Step s s' → Run first s'
