-- Entries are good loops of a grammar, or not, and good ones give each module its loop step.
use Rattle.std.proofs.Common.{◌≡◌, ◌⊎◌, ℕ, zero, suc, ◌+◌, ◌<◌, ◌≤◌, List, [], length, take, get_or, replicate, Option, Some, None, refl, sym, ◌∙◌, subst, inl, inr, ⊎_elim, arith}
use Rattle.std.specs.Prelude.{set}
use Rattle.std.proofs.lemmas.List.{length-replicate, get_or-replicate, get_or_past, get_or_default}
use Rattle.std.proofs.lemmas.Option.{none-some}
use Rattle.std.proofs.lemmas.Bool.{cases_lt}
use Rattle.wf_model.specs.Lists.{IsIn}
use Rattle.wf_model.specs.Grammar.{Grammar, module_at}
use Rattle.wf_model.specs.WellFormed.{IsWellFormed}
use Rattle.wf_model.specs.Reach.{Step, target_of}
use Rattle.wf_model.specs.Linear.{IsOnCycle, IsLinear}
use Rattle.wf_model.proofs.Deciding.{Either, either_same, either_both, either_not, below_either, bytes_either, some_below, all_below}
use Rattle.wf_model.proofs.Lists.{at_in, is_at}
use Rattle.label_model.proofs.Finding.{cases_option}
use Rattle.label_model.proofs.LabelOrNot.{step_either, step_of_either}
use Rattle.package_model.specs.Packages.{LoopEntry}
use Rattle.package_model.specs.Loops.{AreLoopsOf, AreGoodLoops}
use Rattle.package_model.specs.Translating.{Loops}
use Rattle.wf_check.proofs.Derived.{composite_either}
use Rattle.wf_recur.proofs.SomeCycles.{cycle_either}
use Rattle.wf_loops.specs.Looped.{loop_in}
use Rattle.wf_loops.specs.Laws.{GoodLoopsLaw}
use Rattle.wf_loops.specs.Entries.{IsEntryOf, AreEntriesOf, AreStepsByEntries}
use Rattle.wf_loops.specs.Good.{IsGoodTarget, IsGoodAt, AreGoodSteps}
use Rattle.wf_loops.proofs.NamedModules.{one_named}
use Rattle.wf_loops.proofs.Entering.{none_entered, one_more, second_refuted, all_entered}
use Rattle.wf_loops.proofs.GoodLoops.{good_entries, good_at, good_from}
use Rattle.wf_loops.proofs.GoodSteps.{good_on_cycle, none_on_cycle, good_off_cycle, none_off_cycle}

abbrev no_loop : Option Step
no_loop = None

none_at : (n m : ℕ) → loop_in (replicate n None) m ≡ None
none_at n m = ⊎_elim
    (λ l. get_or-replicate n m None None l)
    (λ l. let h = length-replicate n no_loop in get_or_past (replicate n no_loop) m no_loop (omega arith))
    (cases_lt m n)

module _ (g : Grammar) (formed : IsWellFormed g) where
  -- an entry is one of some module, or of none
  entry_either : (e : LoopEntry) → Either ((m : ℕ) × IsEntryOf g e m)
  entry_either e = either_same
      (λ r. (r.0, r.2))
      (λ h. (h.0, h.1.0.0, h.1))
      (some_below (IsEntryOf g e) (length g.modules) (λ m l. either_both (either_both (below_either m (length g.modules)) (bytes_either (module_at g m).name e.module_name)) (step_of_either g m e.step)))

  module _ (entries : List LoopEntry) where
    abbrev Table : ℕ → Type 0
    Table k = (steps : List (Option Step)) × AreStepsByEntries g (take k entries) steps

    -- the table of so many entries, and one more
    module _ (k : ℕ) (e : LoopEntry) (below : k < length entries) (is : e ≡ get_or entries k e) (steps : List (Option Step)) (are : AreStepsByEntries g (take k entries) steps) where
      by_module : (m : ℕ) → IsEntryOf g e m → Table (k + 1) ⊎ (AreEntriesOf g entries → ⊥)
      by_module m of = ⊎_elim
          (λ free. inl (set steps m (Some e.step), one_more g entries k e below is formed steps (set steps m (Some e.step)) are (record { module_no = m; entry_of = of; free = free; is = refl })))
          (λ s. inr (second_refuted g entries k e below is steps are (λ n other. (s.0, subst (λ j. get_or steps j None ≡ Some s.0) (one_named g formed e m n of.0 other.0) s.1))))
          (cases_option (get_or steps m None))

      by_entry : IsIn e entries → Table (k + 1) ⊎ (AreEntriesOf g entries → ⊥)
      by_entry i = ⊎_elim (λ m. by_module m.0 m.1) (λ none. inr (λ all. none (all.each e i))) (entry_either e)

    abbrev no_step : LoopEntry
    no_step = record { module_name = []; step = record { production = 0; position = 0 } }

    tables : (k : ℕ) → k ≤ length entries → Table k ⊎ (AreEntriesOf g entries → ⊥)
    tables zero l = inl (replicate (length g.modules) None, none_entered g (replicate (length g.modules) None) (length-replicate (length g.modules) None) (none_at (length g.modules)))
    tables (suc k) l = ⊎_elim
        (λ t.
        let e = get_or entries k no_step in
        let below : k < length entries = omega arith in
        let next : k + 1 ≡ suc k = omega arith in
        subst (λ n. Table n ⊎ (AreEntriesOf g entries → ⊥)) next
        (by_entry k e below (get_or_default entries k no_step e below) t.0 t.1 (at_in e k entries (is_at k entries no_step below))))
        (λ none. inr none)
        (tables k (omega arith))

    -- entries are entries of modules and give a table, or they are not
    table_or_not : ((steps : List (Option Step)) × AreStepsByEntries g entries steps) ⊎ (AreEntriesOf g entries → ⊥)
    table_or_not = ⊎_elim (λ t. inl (t.0, all_entered g entries (length entries) (omega arith) t.0 t.1)) (λ none. inr none) (tables (length entries) (omega arith))

  module _ (linear : IsLinear g) (loop : Loops) where
    target_either : (t : ℕ) → Either (IsGoodTarget g loop t)
    target_either t = ⊎_elim
        (λ c. either_same (λ h _. h) (λ h. h c) (either_both (some_step t) (either_not (cycle_either g formed t))))
        (λ none. inl (λ c. absurd (none c)))
        (composite_either g t)
      where
        some_step : (t : ℕ) → Either ((s : Step) × (loop t ≡ Some s))
        some_step t = ⊎_elim (λ none. inr (λ h. none-some h.0 (sym none ∙ h.1))) (λ s. inl s) (cases_option (loop t))

    good_at_either : (m : ℕ) → Either (IsGoodAt g loop m)
    good_at_either m = by (cycle_either g formed m) (cases_option (loop m))
      where
        by : Either (IsOnCycle g m) → (loop m ≡ None) ⊎ ((s : Step) × (loop m ≡ Some s)) → Either (IsGoodAt g loop m)
        by (inl on) (inl none) = inr (none_on_cycle g loop m on.0 on.1 none)
        by (inl on) (inr s) = let h = good_on_cycle g loop m linear s.0 on.0 on.1 s.1 in either_same h.0 h.1 (step_either s.0 on.0)
        by (inr off) (inl none) = inl (none_off_cycle g loop m off none)
        by (inr off) (inr s) = let h = good_off_cycle g loop m s.0 (target_of g s.0) off s.1 refl in either_same h.0 h.1 (target_either (target_of g s.0))

    good_steps_either : Either (AreGoodSteps g loop)
    good_steps_either = all_below (IsGoodAt g loop) (length g.modules) (λ m l. good_at_either m)

  -- entries are good loops, or not
  pub good_or_not : IsLinear g → (entries : List LoopEntry) → Either (AreGoodLoops g entries)
  good_or_not linear entries = ⊎_elim
      (λ t. either_same
      (λ good. good_from g formed entries (loop_in t.0) t.1.loops t.1.entries_of good)
      (λ good. good_at g formed entries (loop_in t.0) t.1.loops good)
      (good_steps_either linear (loop_in t.0)))
      (λ none. inr (λ good. none (good_entries g entries good)))
      (table_or_not entries)

  -- good loops give each module its loop step
  pub some_loops : (entries : List LoopEntry) → AreGoodLoops g entries → (loop : Loops) × AreLoopsOf g entries loop
  some_loops entries good = ⊎_elim (λ t. (loop_in t.0, t.1.loops)) (λ none. absurd (none (good_entries g entries good))) (table_or_not entries)

pub good_loops_law : GoodLoopsLaw
good_loops_law g entries formed linear = ⊎_elim (λ good. inl (good, some_loops g formed entries good)) (λ bad. inr bad) (good_or_not g formed linear entries)
