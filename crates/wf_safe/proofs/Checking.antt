-- A witness is one exactly where its two productions disagree by the rows that its choice settles.
use Rattle.std.proofs.Common.{◌↔◌, ℕ, zero, suc, ◌<◌, IsTrue, List, Option, length, inl, inr, sym, subst}
use Rattle.wf_model.specs.Grammar.{Grammar, head_of}
use Rattle.wf_model.specs.WellFormed.{IsWellFormed}
use Rattle.wf_model.specs.View.{View, expands, IsSeenModule}
use Rattle.wf_model.specs.declared.event.Event.{Event}
use Rattle.wf_model.specs.Meaning.{pairs_of}
use Rattle.wf_model.specs.Safe.{IsExpansion, Joins, BodyJoins, IsBy, IsChosen, Ends}
use Rattle.wf_laws.specs.Chosen.{IsByOther}
use Rattle.wf_laws.specs.Settled.{IsSettledBody, IsInducedWhereSettled}
use Rattle.wf_safe.specs.declared.witness.Witness.{Witness}
use Rattle.wf_safe.specs.Choosing.{HasNumbers}
use Rattle.wf_safe.specs.Settling.{is_set, AreSet, AreAllRowsByChoice, AreApart}
use Rattle.wf_safe.specs.Witness.{chosen_in, IsChoiceOf, IsOtherRun, IsWitness}
use Rattle.wf_safe.proofs.SeenBelow.{seen_below}
use Rattle.wf_safe.proofs.Disagreeing.{disagree_same, head_seen, head_expanded, one_joins, other_joins, told_by}

module _ (g : Grammar) (u : View) (choice : List (ℕ × ℕ)) (wf : IsWellFormed g) (rows : List (Option (List ℕ))) (all : AreAllRowsByChoice g u choice rows) where
  -- what is settled has rows
  settled_set : (n m : ℕ) → m < length g.modules → Ends g u (IsChosen choice) n m → IsTrue (is_set rows m)
  settled_set zero m low ex = (all.right.shown m low ex).0
  settled_set (suc n) m low (inl ex) = (all.right.shown m low ex).0
  settled_set (suc n) m low (inr h) = all.all m h.0 h.1 (λ k i. settled_set n k ((wf.bodies h.0 h.2.0).modules k i) (h.3 k i))

  body_set : (p : ℕ) → p < length g.productions → IsSettledBody g u (IsChosen choice) p → AreSet g p rows
  body_set p hp h k i = let s = h k i in settled_set s.0 k ((wf.bodies p hp).modules k i) s.1

  -- so the rows pass the tests of the chosen productions whose bodies are settled
  pub rows_induced : IsInducedWhereSettled g u (IsChosen choice) (pairs_of rows)
  rows_induced = record {
    shown = λ m seen ex i o hi ho. (all.right.shown m (seen_below g u m wf seen) ex).1 i o hi ho;
    induced = λ p hp c seen ex s i o hi ho. (all.right.bodies (head_of g p) p c (all.all (head_of g p) p c (body_set p hp s))).1 i o hi ho;
  }

module _ (g : Grammar) (u : View) (w : Witness) (wf : IsWellFormed g) (rows : List (Option (List ℕ))) (all : AreAllRowsByChoice g u (chosen_in w.choice) rows) where
  induced : IsInducedWhereSettled g u (IsChosen (chosen_in w.choice)) (pairs_of rows)
  induced = rows_induced g u (chosen_in w.choice) wf rows all

  pub apart_from : IsWitness g u w → AreApart g rows w
  apart_from h =
      let s = (h.choice.seen w.«module».0 w.one.0 h.one).0 in
      let r = h.runs in
      let one = (told_by g u w wf).ends w.«module».0 s r.one_run r.is_one.expansion_of r.is_one.by in
      let run : IsOtherRun g u (chosen_in w.choice) (head_of g w.other.0) w.other.0 h.runs.other_run = subst (λ z. IsOtherRun g u (chosen_in w.choice) z w.other.0 h.runs.other_run) (sym h.other.1) h.runs.is_other in
      let j = one_joins g u w (pairs_of rows) wf h induced in
      let k = other_joins g u w (pairs_of rows) wf h induced in
      record {
        one_set = settled_set g u (chosen_in w.choice) wf rows all one.0 w.«module».0 (seen_below g u w.«module».0 wf s) one.1;
        other_set = body_set g u (chosen_in w.choice) wf rows all w.other.0 h.other.0 ((told_by g u w wf).other_ends w.other.0 (head_seen g u w (pairs_of rows) wf h induced) (head_expanded g u w (pairs_of rows) wf h induced) r.other_run run.expansion_of run.by);
        disagree = disagree_same w.joined_by_one _ _ _ _ (j.1, j.0) (k.1, k.0) r.disagree;
      }

  module _ (ch : IsChoiceOf g u (chosen_in w.choice)) (nums : HasNumbers g w) (apart : AreApart g rows w) where
    seen : IsSeenModule g u w.«module».0
    seen = (ch.seen w.«module».0 w.one.0 nums.one).0

    one_run : (e : List Event) × IsExpansion g u w.«module».0 e × IsBy g u w.«module».0 (IsChosen (chosen_in w.choice)) e
    one_run = (told_by g u w wf).run w.«module».0 seen (all.right.settled w.«module».0 apart.one_set)

    seen_head : IsSeenModule g u (head_of g w.other.0)
    seen_head = subst (IsSeenModule g u) (sym nums.other.1) seen

    expanded_head : IsTrue (expands u (head_of g w.other.0))
    expanded_head = subst (λ z. IsTrue (expands u z)) (sym nums.other.1) (ch.seen w.«module».0 w.one.0 nums.one).1

    other_run : (e : List Event) × IsExpansion g u (head_of g w.other.0) e × IsByOther g u (head_of g w.other.0) (IsChosen (chosen_in w.choice)) w.other.0 e
    other_run = (told_by g u w wf).other_run w.other.0 nums.other.0 seen_head expanded_head (λ k i. all.right.settled k (apart.other_set k i))

    pub witness_from : IsWitness g u w
    witness_from = record {
      choice = ch;
      one = nums.one;
      other = nums.other;
      input = nums.input;
      output = nums.output;
      runs = record {
        one_run = one_run.0;
        is_one = record { expansion_of = one_run.1; by = one_run.2 };
        other_run = other_run.0;
        is_other = subst (λ z. IsOtherRun g u (chosen_in w.choice) z w.other.0 other_run.0) nums.other.1 (record { expansion_of = other_run.1; by = other_run.2 });
        disagree = disagree_same w.joined_by_one _ _ _ _
            ((told_by g u w wf).joins (pairs_of rows) induced w.«module».0 seen one_run.0 one_run.1 one_run.2 w.input.0 w.output.0 nums.input nums.output)
            (subst (λ z. BodyJoins g (pairs_of rows) w.other.0 w.input.0 w.output.0 ↔ Joins g u z other_run.0 w.input.0 w.output.0) nums.other.1
            ((told_by g u w wf).other_joins (pairs_of rows) induced w.other.0 seen_head expanded_head other_run.0 other_run.1 other_run.2 w.input.0 w.output.0))
            apart.disagree;
      };
    }
