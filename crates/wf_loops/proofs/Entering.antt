-- The table of loop steps, one entry after another.
use Rattle.std.proofs.Common.{◌≡◌, ◌↔◌, ℕ, ◌+◌, ◌<◌, ◌≤◌, List, [], ◌∷◌, ◌++◌, map, length, take, drop, get_or, Option, Some, None, refl, sym, ap, ◌∙◌, subst, inl, inr, ⊎_elim}
use Rattle.std.proofs.lemmas.Bool.{cases_eq}
use Rattle.std.proofs.lemmas.List.{map-append, get_or-set_same, get_or-set_other, length-set, take_more, take_all, take-append-drop, drop_more}
use Rattle.std.proofs.lemmas.Option.{none-some, same_Some}
use Rattle.wf_model.specs.Lists.{IsIn, AllDiffer}
use Rattle.wf_model.specs.Grammar.{Grammar}
use Rattle.wf_model.specs.WellFormed.{IsWellFormed}
use Rattle.wf_model.specs.Reach.{Step}
use Rattle.wf_model.proofs.Lists.{in_append_cases, in_append_left, in_append_right, in_map, in_map_from}
use Rattle.package_model.specs.Packages.{LoopEntry}
use Rattle.package_model.specs.Loops.{NamesModule, HasLoop, AreLoopsOf}
use Rattle.wf_loops.specs.Looped.{loop_in}
use Rattle.wf_loops.specs.Entries.{IsEntryOf, AreEntriesOf, AreStepsByEntries, IsEntered, IsSecondEntry}
use Rattle.wf_loops.proofs.NamedModules.{one_named}

abbrev name_of : LoopEntry → List ℕ
name_of e = e.module_name

differ_last : (xs : List (List ℕ)) (y : List ℕ) → AllDiffer xs → (IsIn y xs → ⊥) → AllDiffer (xs ++ y ∷ [])
differ_last [] y d new = ((λ i. i), tt)
differ_last (x ∷ xs) y d new =
    ((λ i. ⊎_elim (λ j. d.0 j) (λ j. ⊎_elim (λ (q : x ≡ y). new (inl (sym q))) (λ z. z) j) (in_append_cases x xs (y ∷ []) i)), differ_last xs y d.1 (λ i. new (inr i)))

differ_middle : (xs : List (List ℕ)) (y : List ℕ) (ys : List (List ℕ)) → AllDiffer (xs ++ y ∷ ys) → IsIn y xs → ⊥
differ_middle [] y ys d i = i
differ_middle (x ∷ xs) y ys d (inl q) = d.0 (in_append_right x xs (y ∷ ys) (inl (sym q)))
differ_middle (x ∷ xs) y ys d (inr i) = differ_middle xs y ys d.1 i

-- before the first entry no module has a step
pub none_entered : (g : Grammar) (steps : List (Option Step)) → length steps ≡ length g.modules → ((m : ℕ) → loop_in steps m ≡ None) → AreStepsByEntries g [] steps
none_entered g steps count none = record {
  one_each = count;
  entries_of = record { each = λ e i. absurd i; once = tt };
  loops = λ m s. ((λ q. absurd (none-some s (sym (none m) ∙ q))), (λ h. absurd h.1));
}

module _ (g : Grammar) (formed : IsWellFormed g) (es : List LoopEntry) (e : LoopEntry) (before after : List (Option Step)) (are : AreStepsByEntries g es before) (entered : IsEntered g e before after) where
  -- no entry before it names its module
  not_before : (f : LoopEntry) → IsIn f es → NamesModule g f entered.module_no → ⊥
  not_before f i h = none-some f.step (sym entered.free ∙ (are.loops entered.module_no f.step).1 (f, i, h, refl))

  new_name : IsIn e.module_name (map name_of es) → ⊥
  new_name i = let f = in_map_from name_of e.module_name es i in not_before f.0 f.1 (entered.entry_of.0.0, entered.entry_of.0.1 ∙ f.2)

  names_differ : AllDiffer (map name_of (es ++ e ∷ []))
  names_differ = subst AllDiffer (sym (map-append name_of es (e ∷ []))) (differ_last (map name_of es) e.module_name are.entries_of.once new_name)

  each : (f : LoopEntry) → IsIn f (es ++ e ∷ []) → (m : ℕ) × IsEntryOf g f m
  each f i = ⊎_elim
      (λ j. are.entries_of.each f j)
      (λ j. ⊎_elim (λ (q : f ≡ e). subst (λ z. (m : ℕ) × IsEntryOf g z m) (sym q) (entered.module_no, entered.entry_of)) (λ z. absurd z) j)
      (in_append_cases f es (e ∷ []) i)

  -- the module of the entry has its step now
  step_there : loop_in after entered.module_no ≡ Some e.step
  step_there =
      ap (λ l. get_or l entered.module_no None) entered.is ∙
      get_or-set_same before entered.module_no (Some e.step) None (subst (λ n. entered.module_no < n) (sym are.one_each) entered.entry_of.0.0)

  its_loop : (s : Step) → (loop_in after entered.module_no ≡ Some s) ↔ HasLoop g (es ++ e ∷ []) entered.module_no s
  its_loop s = (
    (λ q. (e, in_append_right e es (e ∷ []) (inl refl), entered.entry_of.0, same_Some e.step s (sym step_there ∙ q))),
    (λ h. ⊎_elim
        (λ i. absurd (not_before h.0 i h.2))
        (λ i. ⊎_elim (λ (q : h.0 ≡ e). step_there ∙ ap Some (ap (λ (z : LoopEntry). z.step) (sym q) ∙ h.3)) (λ z. absurd z) i)
        (in_append_cases h.0 es (e ∷ []) h.1)),
  )

  -- another has the step that it had
  other_loop : (m : ℕ) (s : Step) → (m ≡ entered.module_no → ⊥) → (loop_in after m ≡ Some s) ↔ HasLoop g (es ++ e ∷ []) m s
  other_loop m s other = (
    (λ q. let h = (are.loops m s).0 (sym same ∙ q) in (h.0, in_append_left h.0 es (e ∷ []) h.1, h.2, h.3)),
    (λ h. ⊎_elim
        (λ i. same ∙ (are.loops m s).1 (h.0, i, h.2, h.3))
        (λ i. ⊎_elim (λ (q : h.0 ≡ e). absurd (other (one_named g formed e m entered.module_no (subst (λ f. NamesModule g f m) q h.2) entered.entry_of.0))) (λ z. absurd z) i)
        (in_append_cases h.0 es (e ∷ []) h.1)),
  )
    where
      same : loop_in after m ≡ loop_in before m
      same = ap (λ l. get_or l m None) entered.is ∙ get_or-set_other before entered.module_no m (Some e.step) None other

  loops : AreLoopsOf g (es ++ e ∷ []) (loop_in after)
  loops m s = ⊎_elim
      (λ q. subst (λ k. (loop_in after k ≡ Some s) ↔ HasLoop g (es ++ e ∷ []) k s) (sym q) (its_loop s))
      (λ other. other_loop m s other)
      (cases_eq m entered.module_no)

  entered_more : AreStepsByEntries g (es ++ e ∷ []) after
  entered_more = record {
    one_each = ap length entered.is ∙ (length-set before entered.module_no (Some e.step) ∙ are.one_each);
    entries_of = record { each = each; once = names_differ };
    loops = loops;
  }

module _ (g : Grammar) (entries : List LoopEntry) (k : ℕ) (e : LoopEntry) (below : k < length entries) (is : e ≡ get_or entries k e) where
  -- one entry more
  pub one_more : IsWellFormed g → (before after : List (Option Step)) → AreStepsByEntries g (take k entries) before → IsEntered g e before after → AreStepsByEntries g (take (k + 1) entries) after
  one_more formed before after are entered =
      subst (λ l. AreStepsByEntries g l after) (sym (take_more entries k e below ∙ ap (λ x. take k entries ++ x ∷ []) (sym is))) (entered_more g formed (take k entries) e before after are entered)

  around : entries ≡ take k entries ++ e ∷ drop (k + 1) entries
  around = sym (take-append-drop k entries) ∙ ap (λ l. take k entries ++ l) (drop_more entries k e below ∙ ap (λ x. x ∷ drop (k + 1) entries) (sym is))

  -- an entry whose module has a step already: the entries are no good
  pub second_refuted : (steps : List (Option Step)) → AreStepsByEntries g (take k entries) steps → IsSecondEntry g e steps → AreEntriesOf g entries → ⊥
  second_refuted steps are second all =
      let r = all.each e (subst (IsIn e) (sym around) (in_append_right e (take k entries) (e ∷ drop (k + 1) entries) (inl refl))) in
      let s = second r.0 r.1 in
      let h = (are.loops r.0 s.0).0 s.1 in
      let same : h.0.module_name ≡ e.module_name = sym h.2.1 ∙ r.1.0.1 in
      differ_middle (map name_of (take k entries)) e.module_name (map name_of (drop (k + 1) entries))
      (subst AllDiffer (ap (map name_of) around ∙ map-append name_of (take k entries) (e ∷ drop (k + 1) entries)) all.once)
      (subst (λ n. IsIn n (map name_of (take k entries))) same (in_map name_of h.0 (take k entries) h.1))

-- all of them
pub all_entered : (g : Grammar) (entries : List LoopEntry) (k : ℕ) → length entries ≤ k → (steps : List (Option Step)) → AreStepsByEntries g (take k entries) steps → AreStepsByEntries g entries steps
all_entered g entries k end steps are = subst (λ l. AreStepsByEntries g l steps) (take_all k entries end) are
