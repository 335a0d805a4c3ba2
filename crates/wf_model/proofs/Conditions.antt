-- An event has no fault exactly if all of its conditions hold, and a fault exactly if the first that does not hold has it.
use Rattle.std.proofs.Common.{◌≡◌, ◌≢◌, ℕ, ◌+◌, ◌<◌, ◌≤◌, ◌⊎◌, ◌↔◌, Bool, true, false, not, cond, List, [], ◌∷◌, length, Some, None, refl, sym, ap, ◌∙◌, subst, inl, inr, ⊎_elim, arith, true≢false}
use Rattle.std.specs.Prelude.{nat_le, nat_lt, ◌==◌, is_some}
use Rattle.std.proofs.lemmas.Bool.Decides.{nat_tests}
use Rattle.std.proofs.lemmas.Bool.{not_from_true}
use Rattle.wf_model.specs.declared.event.Event.{Event}
use Rattle.wf_model.specs.declared.event.Event.TheVariants.{Start, Expand}
use Rattle.wf_model.specs.declared.event.RunFault.{RunFault}
use Rattle.wf_model.specs.Lists.{IsIn}
use Rattle.wf_model.specs.Grammar.{Grammar, head_of, body_of}
use Rattle.wf_model.specs.WellFormed.{IsShortName}
use Rattle.wf_model.specs.Run.{Instance, made, names_of, expanded_by, IsAccepted}
use Rattle.wf_model.specs.Faults.{is_short_name, is_nil, module_in, first_of, faults_of, fault_of}
use Rattle.wf_model.specs.Conditions.{Condition, IsWithin, conditions_of, AllHold, FirstFailing}
use Rattle.wf_model.proofs.Lists.{among_gives, among_from}
use Rattle.wf_model.proofs.Differ.{one_of_name}
use Rattle.wf_model.proofs.Taking.{short_gives, short_from, shorts_give, shorts_from, twice_gives, twice_from, module_gives, not_some, same_num, nil_gives, run_differs}
use Rattle.wf_model.proofs.Tests.{not_false}

-- the tests tell the conditions: each test passes where its condition does not hold; a later one need tell it only where the earlier conditions hold
abbrev AreTold : List (Bool × RunFault) → List Condition → Type 0
AreTold [] [] = Unit {0}
AreTold [] (c ∷ cs) = ⊥
AreTold (t ∷ ts) [] = ⊥
AreTold (t ∷ ts) (c ∷ cs) = (t.1 ≡ c.fault) × ((t.0 ≡ false) ↔ c.holds) × (c.holds → AreTold ts cs)

none_told : (ts : List (Bool × RunFault)) (cs : List Condition) → AreTold ts cs → (first_of ts ≡ None) ↔ AllHold cs
none_told [] [] h = ((λ e. tt), (λ e. refl))
none_told [] (c ∷ cs) h = absurd h
none_told (t ∷ ts) [] h = absurd h
none_told (t ∷ ts) (c ∷ cs) h = go (λ x. none_told ts cs (h.2 x)) (t.0) refl
  where
    go : (c.holds → (first_of ts ≡ None) ↔ AllHold cs) → (b : Bool) → t.0 ≡ b → (cond b (Some t.1) (first_of ts) ≡ None) ↔ (c.holds × AllHold cs)
    go after true e = ((λ q. absurd (cc)), (λ q. absurd (true≢false (sym e ∙ h.1.1 q.0))))
    go after false e = let x = h.1.0 e in ((λ q. (x, (after x).0 q)), (λ q. (after x).1 q.1))

fault_told : (ts : List (Bool × RunFault)) (cs : List Condition) → AreTold ts cs → (f : RunFault) → (first_of ts ≡ Some f) ↔ FirstFailing f cs
fault_told [] [] h f = ((λ e. absurd (cc)), (λ e. absurd e))
fault_told [] (c ∷ cs) h f = absurd h
fault_told (t ∷ ts) [] h f = absurd h
fault_told (t ∷ ts) (c ∷ cs) h f = go (λ x. fault_told ts cs (h.2 x) f) (t.0) refl
  where
    go : (c.holds → (first_of ts ≡ Some f) ↔ FirstFailing f cs) → (b : Bool) → t.0 ≡ b → (cond b (Some t.1) (first_of ts) ≡ Some f) ↔ (((¬ c.holds) × (f ≡ c.fault)) ⊎ (c.holds × FirstFailing f cs))
    go after true e = (
      (λ (q : Some t.1 ≡ Some f). let s : t.1 ≡ f = cc in inl ((λ x. true≢false (sym e ∙ h.1.1 x)), sym s ∙ h.0)),
      (λ q. ⊎_elim (λ a. ap Some (h.0 ∙ sym a.1)) (λ a. absurd (true≢false (sym e ∙ h.1.1 a.0))) q),
    )
    go after false e =
        let x = h.1.0 e in
        ((λ q. inr (x, (after x).0 q)), (λ q. ⊎_elim (λ a. absurd (a.0 x)) (λ a. (after x).1 a.1) q))

is_nothing : {A : Type 0} (xs : List A) → xs ≡ [] → is_nil xs ≡ true
is_nothing xs e = ap is_nil e

some_there : {A : Type 0} (xs : List A) → (is_nil xs ≡ false) ↔ (xs ≢ [])
some_there [] = ((λ e. absurd (true≢false e)), (λ n. absurd (n refl)))
some_there (x ∷ xs) = ((λ e q. absurd (cc)), (λ n. refl))

not_below : (a b : ℕ) → (nat_le a b ≡ false) ↔ (b < a)
not_below a b = ((λ e. grind (arith, nat_tests)), (λ e. grind (arith, nat_tests)))

not_above : (a b : ℕ) → (nat_lt a b ≡ false) ↔ (b ≤ a)
not_above a b = ((λ e. grind (arith, nat_tests)), (λ e. grind (arith, nat_tests)))

num_same : (a b : ℕ) → a ≡ b → not (a == b) ≡ false
num_same a b e = grind (arith, nat_tests)

short_told : (n : List ℕ) → (not (is_short_name n) ≡ false) ↔ IsShortName n
short_told n = ((λ e. short_gives n (not_false _ e)), (λ h. not_from_true _ (short_from n h.0 h.1)))

module _ (g : Grammar) (most : ℕ) (before : List Event) (acc : IsAccepted g most before) where
  start_told : (r : List ℕ) → AreTold (faults_of g most before (Start r)) (conditions_of g most before (Start r))
  start_told r = (
    refl,
    ((λ e. nil_gives before (not_false _ e)), (λ e. not_from_true _ (is_nothing before e))),
    λ nil. (
      refl,
      short_told r,
      λ s. (
        refl,
        subst (λ b. (nat_lt most 1 ≡ false) ↔ IsWithin g most b 1) (sym nil) (not_above most 1),
        λ w. tt,
      ),
    ),
  )

  expand_told : (i : List ℕ) (p : ℕ) (names : List (List ℕ)) → AreTold (faults_of g most before (Expand i p names)) (conditions_of g most before (Expand i p names))
  expand_told i p names =
      let is = made g g.start before in (
        refl,
        some_there before,
        λ c1. (
          refl,
          ((λ e. among_gives i (names_of is) (not_false _ e)), (λ h. not_from_true _ (among_from i (names_of is) h))),
          λ c2. (
            refl,
            not_below (length g.productions) p,
            λ c3. (
              refl,
              ((λ e. subst (λ m. IsIn (record { name = i; module_no = m }) is) (same_num (module_in is i) (head_of g p) e) (module_gives is i (among_from i (names_of is) c2))), (λ h. num_same _ _ (one_module is c2 h))),
              λ c4. (
                refl,
                ((λ e. not_some (expanded_by before i) e), (λ e. ap is_some e)),
                λ c5. (
                  refl,
                  ((λ e. same_num (length names) (length (body_of g p)) e), (λ e. num_same _ _ e)),
                  λ c6. (
                    refl,
                    ((λ e n h. short_gives n (shorts_give names (not_false _ e) n h)), (λ s. not_from_true _ (shorts_from names (λ n h. short_from n (s n h).0 (s n h).1)))),
                    λ c7. (
                      refl,
                      ((λ e. twice_gives (names_of is) names e), (λ h. twice_from (names_of is) names h.0 h.1)),
                      λ c8. (refl, not_above most (length is + length names), λ c9. tt),
                    ),
                  ),
                ),
              ),
            ),
          ),
        ),
      )
    where
      one_module : (is : List Instance) → IsIn i (names_of (made g g.start before)) → IsIn (record { name = i; module_no = head_of g p }) (made g g.start before) → module_in (made g g.start before) i ≡ head_of g p
      one_module is c2 h =
          ap (λ (z : Instance). z.module_no) (one_of_name (made g g.start before) (run_differs g g.start before acc.0) (record { name = i; module_no = module_in (made g g.start before) i }) (record { name = i; module_no = head_of g p }) (module_gives (made g g.start before) i (among_from i (names_of (made g g.start before)) c2)) h refl)

  told : (e : Event) → AreTold (faults_of g most before e) (conditions_of g most before e)
  told (Start r) = start_told r
  told (Expand i p names) = expand_told i p names

  pub none_exactly : (e : Event) → (fault_of g most before e ≡ None) ↔ AllHold (conditions_of g most before e)
  none_exactly e = none_told _ _ (told e)

  pub fault_exactly : (e : Event) (f : RunFault) → (fault_of g most before e ≡ Some f) ↔ FirstFailing f (conditions_of g most before e)
  fault_exactly e f = fault_told _ _ (told e) f
