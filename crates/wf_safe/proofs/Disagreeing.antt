-- What a witness tells: its two expansions disagree, so the view is not safe, and by induced pairs its other production does not agree.
use Rattle.std.proofs.Common.{◌≡◌, ◌↔◌, Bool, true, false, IsTrue, refl, sym, ◌∙◌, subst, true≢false}
use Rattle.wf_model.specs.Grammar.{Grammar, Assignment, head_of}
use Rattle.wf_model.specs.WellFormed.{IsWellFormed}
use Rattle.wf_model.specs.View.{View, expands, IsSeenModule}
use Rattle.wf_model.specs.Safe.{Joins, BodyJoins, IsChosen}
use Rattle.wf_laws.specs.Settled.{IsInducedWhereSettled, IsToldOfChoice}
use Rattle.wf_laws.proofs.Settled.{settled_law}
use Rattle.wf_safe.specs.declared.witness.Witness.{Witness}
use Rattle.wf_safe.specs.Witness.{chosen_in, Disagree, IsOtherRun, IsWitness, AgreesOn, WitnessLaw}

-- whether they disagree rests on what the two mean
pub disagree_same : (joined : Bool) (A B C D : Type 0) → A ↔ C → B ↔ D → Disagree joined A B → Disagree joined C D
disagree_same true A B C D f k h = (f.0 h.0, λ d. h.1 (k.1 d))
disagree_same false A B C D f k h = (λ c. h.0 (f.1 c), k.0 h.1)

-- one of the two holds and does not follow from, or does not give, the other
pub disagreeing : (joined : Bool) (A B : Type 0) → Disagree joined A B → (A → B) → (B → A) → ⊥
disagreeing true A B h f k = h.1 (f h.0)
disagreeing false A B h f k = h.0 (k h.1)

pub witness_law : WitnessLaw
witness_law g u w h safe =
    let r = h.runs in
    let seen = (h.choice.seen w.«module».0 w.one.0 h.one).0 in
    let one = r.is_one.expansion_of in
    let other = r.is_other.expansion_of in
    disagreeing w.joined_by_one _ _ r.disagree
    (safe w.«module».0 seen r.one_run r.other_run one other w.input.0 w.output.0 h.input h.output)
    (safe w.«module».0 seen r.other_run r.one_run other one w.input.0 w.output.0 h.input h.output)

-- what its choice tells
pub told_by : (g : Grammar) (u : View) (w : Witness) → IsWellFormed g → IsToldOfChoice g u (chosen_in w.choice)
told_by g u w wf = settled_law g u (chosen_in w.choice) wf

-- the two expansions of a witness and the pairs of an assignment that its choice induces
module _ (g : Grammar) (u : View) (w : Witness) (d : Assignment) (wf : IsWellFormed g) (h : IsWitness g u w) (ind : IsInducedWhereSettled g u (IsChosen (chosen_in w.choice)) d) where
  pub head_seen : IsSeenModule g u (head_of g w.other.0)
  head_seen = subst (IsSeenModule g u) (sym h.other.1) (h.choice.seen w.«module».0 w.one.0 h.one).0

  pub head_expanded : IsTrue (expands u (head_of g w.other.0))
  head_expanded = subst (λ z. IsTrue (expands u z)) (sym h.other.1) (h.choice.seen w.«module».0 w.one.0 h.one).1

  pub one_joins : IsTrue (d w.«module».0 w.input.0 w.output.0) ↔ Joins g u w.«module».0 h.runs.one_run w.input.0 w.output.0
  one_joins = (told_by g u w wf).joins d ind w.«module».0 (h.choice.seen w.«module».0 w.one.0 h.one).0 h.runs.one_run h.runs.is_one.expansion_of h.runs.is_one.by w.input.0 w.output.0 h.input h.output

  pub other_joins : BodyJoins g d w.other.0 w.input.0 w.output.0 ↔ Joins g u w.«module».0 h.runs.other_run w.input.0 w.output.0
  other_joins =
      let e = h.runs.other_run in
      let run : IsOtherRun g u (chosen_in w.choice) (head_of g w.other.0) w.other.0 h.runs.other_run = subst (λ z. IsOtherRun g u (chosen_in w.choice) z w.other.0 h.runs.other_run) (sym h.other.1) h.runs.is_other in
      subst (λ z. BodyJoins g d w.other.0 w.input.0 w.output.0 ↔ Joins g u z h.runs.other_run w.input.0 w.output.0) h.other.1
      ((told_by g u w wf).other_joins d ind w.other.0 head_seen head_expanded e run.expansion_of run.by w.input.0 w.output.0)

  -- so the other production does not join the pair exactly where it is assigned to the module
  pub not_agreeing : AgreesOn g d w.other.0 w.input.0 w.output.0 → ⊥
  not_agreeing a =
      let b : IsTrue (d w.«module».0 w.input.0 w.output.0) ↔ BodyJoins g d w.other.0 w.input.0 w.output.0 = subst (λ z. IsTrue (d z w.input.0 w.output.0) ↔ BodyJoins g d w.other.0 w.input.0 w.output.0) h.other.1 a in
      disagreeing w.joined_by_one _ _ h.runs.disagree (λ j. other_joins.0 (b.0 (one_joins.1 j))) (λ j. one_joins.0 (b.1 (other_joins.1 j)))

  -- and the flag tells whether it is assigned
  pub joined_told : w.joined_by_one ≡ d w.«module».0 w.input.0 w.output.0
  joined_told = go w.joined_by_one (d w.«module».0 w.input.0 w.output.0) refl refl
    where
      go : (a b : Bool) → w.joined_by_one ≡ a → d w.«module».0 w.input.0 w.output.0 ≡ b → w.joined_by_one ≡ d w.«module».0 w.input.0 w.output.0
      go true true e f = e ∙ sym f
      go false false e f = e ∙ sym f
      go true false e f =
          let x : Disagree true (Joins g u w.«module».0 h.runs.one_run w.input.0 w.output.0) (Joins g u w.«module».0 h.runs.other_run w.input.0 w.output.0) = subst (λ z. Disagree z (Joins g u w.«module».0 h.runs.one_run w.input.0 w.output.0) (Joins g u w.«module».0 h.runs.other_run w.input.0 w.output.0)) e h.runs.disagree in
          absurd (true≢false (sym (one_joins.1 x.0) ∙ f))
      go false true e f =
          let x : Disagree false (Joins g u w.«module».0 h.runs.one_run w.input.0 w.output.0) (Joins g u w.«module».0 h.runs.other_run w.input.0 w.output.0) = subst (λ z. Disagree z (Joins g u w.«module».0 h.runs.one_run w.input.0 w.output.0) (Joins g u w.«module».0 h.runs.other_run w.input.0 w.output.0)) e h.runs.disagree in
          absurd (x.0 (one_joins.0 f))
