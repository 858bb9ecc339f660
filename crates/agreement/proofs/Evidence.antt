-- What shows that contents were committed, and why two commits that query one configuration are comparable (001, Lemma 5.4).
--   CommitEvidence   quorums of all that d queries, each box of which answered with just what d is
--   evidence-meets   two commits that query one configuration have a box in common, whose answers are comparable, hence so are they
use mathlib.Core.Path.{◌≡◌, sym, ◌∙◌}
use mathlib.Core.Logic.{◌⊎◌, inl, inr}
use mathlib.Core.List.{List}
use Rattle.agreement.specs.Lattice.{Among}
use Rattle.agreement.specs.Setting.{Setting, Contents, Below}
use Rattle.agreement.specs.State.{Answer}
use Rattle.agreement.specs.Steps.{Allowed}
use Rattle.agreement.proofs.Below.{below-trans}
use Rattle.agreement.proofs.Shown.{HeldBy}
use Rattle.agreement.proofs.Insertion.{Meets}

module _ {𝓢 : Setting} where
  -- Box r answered with contents equal to d in ⊑*.
  pub record AnsweredBy (answers : List (Answer 𝓢)) (d : Contents 𝓢) (r : 𝓢.Box) : Type 0 where
    pub answer : Answer 𝓢
    pub among : Among answer answers
    pub box : answer.box ≡ r
    pub lower : Below d answer.contents
    pub upper : Below answer.contents d

  pub record CommitEvidence (answers : List (Answer 𝓢)) (d : Contents 𝓢) : Type 0 where
    pub boxes : 𝓢.Boxes
    pub quorum : Allowed d boxes
    pub answered : (r : 𝓢.Box) → 𝓢.BoxIn r boxes → AnsweredBy answers d r

  -- The answers of one box are in order.
  abbrev pub Ordered : List (Answer 𝓢) → Type 0
  Ordered answers = (x y : Answer 𝓢) → Among x answers → Among y answers → x.box ≡ y.box → Below x.contents y.contents ⊎ Below y.contents x.contents

  pub evidence-meets : {answers : List (Answer 𝓢)} {s : Contents 𝓢} → Ordered answers → CommitEvidence answers s
      → Meets (CommitEvidence answers) s
  evidence-meets {answers} {s} ordered k y k' sh = go (𝓢.quorums_meet sh.at k.boxes k'.boxes (k.quorum sh.at sh.left) (k'.quorum sh.at sh.right))
    where
      compare : (r : 𝓢.Box) → (a : AnsweredBy answers s r) (b : AnsweredBy answers y r)
          → Below a.answer.contents b.answer.contents ⊎ Below b.answer.contents a.answer.contents → Below s y ⊎ Below y s
      compare r a b (inl h) = inl (below-trans a.lower (below-trans h b.upper))
      compare r a b (inr h) = inr (below-trans b.lower (below-trans h a.upper))

      go : (r : 𝓢.Box) × 𝓢.BoxIn r k.boxes × 𝓢.BoxIn r k'.boxes → Below s y ⊎ Below y s
      go i =
          let a = k.answered i.0 i.1 in
          let b = k'.answered i.0 i.2 in
          compare i.0 a b (ordered a.answer b.answer a.among b.among (a.box ∙ sym b.box))

  -- Further answers take no evidence away.
  pub evidence-more : {answers answers' : List (Answer 𝓢)} → ((x : Answer 𝓢) → Among x answers → Among x answers') → (d : Contents 𝓢)
      → CommitEvidence answers d → CommitEvidence answers' d
  evidence-more {answers} {answers'} g d k = record { boxes = k.boxes; quorum = k.quorum; answered = λ r i. more r (k.answered r i) }
    where
      more : (r : 𝓢.Box) → AnsweredBy answers d r → AnsweredBy answers' d r
      more r a = record { answer = a.answer; among = g a.answer a.among; box = a.box; lower = a.lower; upper = a.upper }

  -- Boxes that are above all they answered hold the commit.
  pub evidence-held : {answers : List (Answer 𝓢)} (boxes : 𝓢.Box → Contents 𝓢)
      → ((x : Answer 𝓢) → Among x answers → Below x.contents (boxes x.box)) → (d : Contents 𝓢) → CommitEvidence answers d
      → HeldBy boxes d
  evidence-held {answers} boxes above d k = record { boxes = k.boxes; quorum = k.quorum; holds = holds' }
    where
      holds' : (r : 𝓢.Box) → 𝓢.BoxIn r k.boxes → Below d (boxes r)
      holds' r i = let a = k.answered r i in below-trans a.lower (rw a.box at (above a.answer a.among))
