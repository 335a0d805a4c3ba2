-- An address has at most as many steps as the run has expand events.
use Rattle.std.proofs.Common.{◌≡◌, ◌≢◌, ℕ, suc, ◌+◌, ◌<◌, ◌⊎◌, Bool, true, false, cond, List, [], ◌∷◌, ◌++◌, length, get_or, bytes_eq, Option, Some, None, refl, sym, ap, ◌∙◌, subst, inl, inr, ⊎_elim, arith, true≢false, append_assoc, append-nil, length-append}
use Rattle.wf_model.specs.Lists.{IsIn}
use Rattle.wf_model.specs.Grammar.{Grammar}
use Rattle.wf_model.specs.View.{View}
use Rattle.wf_model.specs.declared.event.Event.{Event}
use Rattle.wf_model.specs.declared.event.Event.TheVariants.{Start, Expand}
use Rattle.wf_model.specs.Run.{Expanded, made, names_of, expanded_by, CanExpand, AllExtend, IsRun, root_of}
use Rattle.wf_model.specs.Reach.{Step}
use Rattle.wf_model.specs.Routes.{IsAddress}
use Rattle.wf_model.proofs.Lists.{same_bytes, bytes_same, is_at, at_in}
use Rattle.wf_model.proofs.Runs.{expansion_later, expansion_other, name_in, run_state}
use Rattle.wf_model.proofs.Taking.{extended}
use Rattle.wf_model.proofs.Expanding.{one_expansion}
use Rattle.wf_model.proofs.Open.{root_kept}
use Rattle.wf_laws.specs.Depth.{DepthLaw}

-- a view, of which nothing is asked
no_view : View
no_view = record { expanded = []; shown = [] }

not_both : (o : Option Expanded) (y : Expanded) → o ≡ None → o ≡ Some y → ⊥
not_both o y e f = let z : None ≡ Some y = sym e ∙ f in absurd (cc)

module _ (g : Grammar) (m : ℕ) (b : List Event) (run : IsRun g m b) (k : List ℕ) (p : ℕ) (new : List (List ℕ)) (can : CanExpand g m b k p new) where
  abbrev after : List Event
  after = b ++ Expand k p new ∷ []

  -- a name that is new is not expanded, before the event and after it
  unexpanded : (c : List ℕ) → IsIn c new → expanded_by after c ≡ None
  unexpanded c i = expansion_other b k p new c other ∙ go (expanded_by b c) refl
    where
      other : k ≡ c → ⊥
      other e = can.new c i (subst (λ z. IsIn z (names_of (made g m b))) e (name_in _ (made g m b) can.stands))

      go : (o : Option Expanded) → expanded_by b c ≡ o → expanded_by b c ≡ None
      go None e = e
      go (Some x) e = absurd (can.new c i ((run_state g no_view m b run).expanded_made c x e))

  told : (n : List ℕ) → k ≡ n → expanded_by after n ≡ Some (record { production = p; names = new })
  told n e =
      subst (λ z. expanded_by after z ≡ Some (record { production = p; names = new })) e
      (expansion_later b (Expand k p new ∷ []) k can.open_end ∙ ap (λ t. cond {A = Option Expanded} t (Some (record { production = p; names = new })) None) (bytes_same k k refl))

  no_further : (steps : List Step) (c x : List ℕ) → IsIn c new → IsAddress after c steps x → steps ≡ []
  no_further [] c x i a = refl
  no_further (s ∷ steps) c x i a = absurd (not_both (expanded_by after c) (record { production = s.production; names = a.0 }) (unexpanded c i) a.1)

  -- an address after the event: one before it, or one step more than the address of the instance that is expanded
  abbrev IsSplit : List ℕ → List Step → List ℕ → Type 0
  IsSplit n steps x = IsAddress b n steps x ⊎ ((c : List Step) × (length steps ≡ suc (length c)) × IsAddress b n c k)

  split : (steps : List Step) (n x : List ℕ) → IsAddress after n steps x → IsSplit n steps x
  split [] n x a = inl a
  split (s ∷ steps) n x a = go (split steps (get_or a.0 s.position []) x a.3) (bytes_eq k n) refl
    where
      go : IsSplit (get_or a.0 s.position []) steps x → (t : Bool) → bytes_eq k n ≡ t → IsSplit n (s ∷ steps) x
      go ih true e =
          let same = same_bytes k n e in
          let r = one_expansion (expanded_by after n) (record { production = p; names = new }) (record { production = s.production; names = a.0 }) (told n same) a.1 in
          let names : new ≡ a.0 = ap (λ (z : Expanded). z.names) r in
          let i : IsIn (get_or a.0 s.position []) new = subst (IsIn (get_or a.0 s.position [])) (sym names) (at_in _ s.position a.0 (is_at s.position a.0 [] a.2)) in
          let none = no_further steps (get_or a.0 s.position []) x i a.3 in
          inr ([], ap (λ (l : List Step). suc (length l)) none, sym same)
      go ih false e =
          let before = sym (expansion_other b k p new n (λ z. true≢false (sym (bytes_same k n z) ∙ e))) ∙ a.1 in
          ⊎_elim (λ r. inl (a.0, before, a.2, r)) (λ r. inr (s ∷ r.0, ap suc r.1, (a.0, before, a.2, r.2))) ih

module _ (g : Grammar) (m : ℕ) where
  abbrev IsShort : List Event → Type 0
  IsShort b = (steps : List Step) (x : List ℕ) → IsAddress b (root_of b) steps x → length steps < length b

  one : (r : List ℕ) → IsShort (Start r ∷ [])
  one r [] x a = omega arith
  one r (s ∷ steps) x a = absurd (not_both None (record { production = s.production; names = a.0 }) refl a.1)

  more : (b : List Event) (k : List ℕ) (p : ℕ) (new : List (List ℕ)) → IsRun g m b → b ≢ [] → CanExpand g m b k p new → IsShort b → IsShort (b ++ Expand k p new ∷ [])
  more b k p new run started can short steps x a =
      let longer : length (b ++ Expand k p new ∷ []) ≡ length b + 1 = length-append b (Expand k p new ∷ []) in
      ⊎_elim
      (λ r. let l = short steps x r in omega arith)
      (λ r. let l = short r.0 k r.2 in let e = r.1 in omega arith)
      (split g m b run k p new can steps (root_of b) x (subst (λ z. IsAddress (b ++ Expand k p new ∷ []) z steps x) (root_kept b (Expand k p new ∷ []) started) a))

  all : (b a : List Event) → IsRun g m b → b ≢ [] → IsShort b → AllExtend g m b a → IsShort (b ++ a)
  all b [] run started short x = subst IsShort (sym (append-nil b)) short
  all b (Start r ∷ a) run started short x = absurd (started x.0.0)
  all b (Expand k p new ∷ a) run started short x =
      subst IsShort (append_assoc b (Expand k p new ∷ []) a)
      (all (b ++ Expand k p new ∷ []) a (extended g m [] b (Expand k p new) run x.0) (not_nil b) (more b k p new run started x.0 short) x.1)
    where
      not_nil : (b : List Event) → b ++ Expand k p new ∷ [] ≢ []
      not_nil [] q = absurd (cc)
      not_nil (y ∷ b) q = absurd (cc)

pub depth_law : DepthLaw
depth_law g m [] run started = absurd (started refl)
depth_law g m (Start r ∷ events) run started = all g m (Start r ∷ []) events (run.0, tt) (λ z. absurd (cc)) (one g m r) run.1
depth_law g m (Expand i p names ∷ events) run started = absurd run.0.stands
