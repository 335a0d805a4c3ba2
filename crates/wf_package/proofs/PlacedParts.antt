-- The parts that are made by place are those of the package.
use Rattle.std.proofs.Common.{◌≡◌, ℕ, suc, Bool, true, false, cond, List, [], ◌∷◌, ◌++◌, map, get_or, Option, Some, None, refl, sym, ap, ap₂, ◌∙◌, subst, inl, inr}
use Rattle.std.specs.Prelude.{option_map}
use Rattle.wf_model.specs.Lists.{IsIn}
use Rattle.wf_model.specs.Grammar.{Grammar, Given, production_at, inputs_of, outputs_of, head_of, body_of}
use Rattle.wf_model.specs.View.{View, expands, shows, IsSeenModule, in_body}
use Rattle.wf_model.specs.Reach.{Step}
use Rattle.wf_model.specs.declared.body.Position.{Position as PositionHeld}
use Rattle.label_model.specs.Continuing.{continuing}
use Rattle.label_model.proofs.ContinuingSteps.{continuing_is}
use Rattle.version_model.specs.Standing.{renumbered_step}
use Rattle.package_model.specs.Shown.{IsOpenProduction, place_in, placed_step, pairs_within, shown_module, shown_production}
use Rattle.package_model.specs.Packages.{LoopEntry, package_module, package_modules, package_positions, package_production, numbered, package_given, package_loops, given_if, entry_if}
use Rattle.wf_package.specs.Parts.{made_by_place, module_part, position_part, production_part, all_pairs_pass, pairs_part, given_part, loop_part}
use Rattle.wf_package.proofs.PairRows.{has_all-pass}

module _ (g : Grammar) (u : View) where
  pub modules_made : (ps : List ℕ) (k : ℕ) (ms : List ℕ) → made_by_place (module_part g) k ms ≡ package_modules k (map (shown_module g u ps) ms)
  modules_made ps k [] = refl
  modules_made ps k (m ∷ ms) = ap (λ l. package_module k (shown_module g u ps m) ∷ l) (modules_made ps (suc k) ms)

  one_given : (k ins outs : ℕ) (t : ℕ → ℕ → Bool) (shut : Bool) (rest : List Given) → cond shut [] (pairs_part k ins outs t) ++ rest ≡ given_if k ins outs (cond shut None (Some (pairs_within ins outs t))) rest
  one_given k ins outs t true rest = refl
  one_given k ins outs t false rest = go (all_pairs_pass ins outs t) ∙ ap (λ b. cond {A = List Given} b rest (record { module_no = k; pairs = pairs_within ins outs t } ∷ rest)) (sym (has_all-pass ins outs t))
    where
      go : (b : Bool) → cond {A = List Given} b [] (record { module_no = k; pairs = pairs_within ins outs t } ∷ []) ++ rest ≡ cond {A = List Given} b rest (record { module_no = k; pairs = pairs_within ins outs t } ∷ rest)
      go true = refl
      go false = refl

  pub given_made : (ps : List ℕ) (k : ℕ) (ms : List ℕ) → made_by_place (given_part g u) k ms ≡ package_given k (map (shown_module g u ps) ms)
  given_made ps k [] = refl
  given_made ps k (m ∷ ms) =
      ap (λ l. given_part g u k m ++ l) (given_made ps (suc k) ms)
      ∙ one_given k (inputs_of g m) (outputs_of g m) (shows u m) (expands u m) (package_given (suc k) (map (shown_module g u ps) ms))

  one_loop : (k : ℕ) (o p : Option Step) (opened : Bool) (rest : List LoopEntry) → (opened ≡ true → o ≡ p) → cond opened (entry_if k o []) [] ++ rest ≡ entry_if k (cond opened p None) rest
  one_loop k o p false rest same = refl
  one_loop k None p true rest same = ap (λ q. entry_if k q rest) (same refl)
  one_loop k (Some s) p true rest same = ap (λ q. entry_if k q rest) (same refl)

  pub loops_made : (ps places : List ℕ) → ((p : ℕ) → IsOpenProduction g u p → get_or places p 0 ≡ place_in ps p) → (k : ℕ) (ms : List ℕ) → ((m : ℕ) → IsIn m ms → IsSeenModule g u m) →
      made_by_place (loop_part g u places) k ms ≡ package_loops k (map (shown_module g u ps) ms)
  loops_made ps places placed k [] seen = refl
  loops_made ps places placed k (m ∷ ms) seen =
      ap (λ l. loop_part g u places k m ++ l) (loops_made ps places placed (suc k) ms (λ n h. seen n (inr h)))
      ∙ one_loop k (option_map (renumbered_step (λ p. get_or places p 0)) (continuing g m)) (option_map (placed_step ps) (continuing g m)) (expands u m) (package_loops (suc k) (map (shown_module g u ps) ms)) (λ e. same e (continuing g m) refl)
    where
      same : expands u m ≡ true → (o : Option Step) → continuing g m ≡ o → option_map (renumbered_step (λ p. get_or places p 0)) o ≡ option_map (placed_step ps) o
      same e None q = refl
      same e (Some s) q =
          let st = (continuing_is g m s q).0 in
          ap (λ n. Some (record { production = n; position = s.position }))
          (placed s.production (st.in_range, subst (IsSeenModule g u) (sym st.head) (seen m (inl refl)), ap (expands u) st.head ∙ e))

  map-same : (f h : ℕ → ℕ) (xs : List ℕ) → ((x : ℕ) → IsIn x xs → f x ≡ h x) → map f xs ≡ map h xs
  map-same f h [] same = refl
  map-same f h (x ∷ xs) same = ap₂ (λ a l. a ∷ l) (same x (inl refl)) (map-same f h xs (λ y i. same y (inr i)))

  one_production : (ms : List ℕ) (place : ℕ → ℕ) → ((m : ℕ) → IsSeenModule g u m → place m ≡ place_in ms m) → (p : ℕ) → IsOpenProduction g u p → production_part g place p ≡ package_production (shown_production g ms p)
  one_production ms place placed p h =
      ap₂ (λ a l. package_production (record { head = a; body = l; edges = (production_at g p).edges; entries = (production_at g p).entries; exits = (production_at g p).exits }))
      (placed (head_of g p) h.1) (map-same place (place_in ms) (body_of g p) (λ m i. placed m (in_body p h.0 h.1 h.2 i)))

  pub productions_made : (ms : List ℕ) (place : ℕ → ℕ) → ((m : ℕ) → IsSeenModule g u m → place m ≡ place_in ms m) → (ps : List ℕ) → ((p : ℕ) → IsIn p ps → IsOpenProduction g u p) →
      map (production_part g place) ps ≡ map package_production (map (shown_production g ms) ps)
  productions_made ms place placed [] opened = refl
  productions_made ms place placed (p ∷ ps) opened = ap₂ (λ r l. r ∷ l) (one_production ms place placed p (opened p (inl refl))) (productions_made ms place placed ps (λ q h. opened q (inr h)))

-- the positions that are made are those of the body with its modules' places
pub positions_made : (places : List ℕ) (k : ℕ) (qs : List PositionHeld) → made_by_place (position_part places) k qs ≡ package_positions k (map (λ (q : PositionHeld). get_or places q.module.0 0) qs)
positions_made places k [] = refl
positions_made places k (q ∷ qs) = ap (λ l. record { name = numbered 112 k; module_no = get_or places q.module.0 0 } ∷ l) (positions_made places (suc k) qs)
