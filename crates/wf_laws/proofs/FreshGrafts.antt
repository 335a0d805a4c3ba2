-- Names under which any runs may be grafted: those of the k-th run begin with k times an `a`, and then a `b`; the root is named `c`.
use Rattle.std.proofs.Common.{◌≡◌, ◌≢◌, ℕ, zero, suc, ◌+◌, ◌<◌, List, [], ◌∷◌, ◌++◌, map, length, replicate, refl, sym, ap, ◌∙◌, subst, inl, ⊎_elim, arith, length-append}
use Rattle.wf_model.specs.Lists.{IsIn}
use Rattle.wf_model.specs.Grammar.{Grammar}
use Rattle.wf_model.specs.WellFormed.{IsWellFormed}
use Rattle.wf_model.specs.DefaultView.{default_view}
use Rattle.wf_model.specs.declared.event.Event.{Event}
use Rattle.wf_model.specs.Run.{IsName, IsRun, made, names_of}
use Rattle.wf_model.proofs.Lists.{in_append_cases, in_map_from}
use Rattle.wf_laws.specs.Rename.{rename_event, IsRenaming}
use Rattle.wf_laws.specs.Graft.{run_at, place_module, names_at, AreRuns, AreApart, renamed_from, FreshGraftLaw}
use Rattle.wf_laws.proofs.Growth.{in_replicate}
use Rattle.wf_laws.proofs.Rename.{renamed_names, rename_law}

-- the name of an instance of the k-th run
abbrev placed : ℕ → List ℕ → List ℕ
placed k n = replicate k 97 ++ 98 ∷ n

abbrev root : List ℕ
root = 99 ∷ []

first_bytes : (x y : ℕ) (a b : List ℕ) → x ∷ a ≡ y ∷ b → (x ≡ y) × (a ≡ b)
first_bytes x y a b e = ((cc), (cc))

placed_differ : (k : ℕ) (a b : List ℕ) → placed k a ≡ placed k b → a ≡ b
placed_differ zero a b e = (first_bytes 98 98 a b e).1
placed_differ (suc k) a b e = placed_differ k a b (first_bytes 97 97 (placed k a) (placed k b) e).1

-- names of different runs differ
one_place : (j k : ℕ) (a b : List ℕ) → placed j a ≡ placed k b → j ≡ k
one_place zero zero a b e = refl
one_place zero (suc k) a b e = let h = (first_bytes 98 97 a (placed k b) e).0 in absurd (omega (arith, h))
one_place (suc j) zero a b e = let h = (first_bytes 97 98 (placed j a) b e).0 in absurd (omega (arith, h))
one_place (suc j) (suc k) a b e = ap suc (one_place j k a b (first_bytes 97 97 (placed j a) (placed k b) e).1)

-- and none is that of the root
not_root : (k : ℕ) (a : List ℕ) → root ≡ placed k a → ⊥
not_root zero a e = let h = (first_bytes 99 98 [] a e).0 in absurd (omega (arith, h))
not_root (suc k) a e = let h = (first_bytes 99 97 [] (placed k a) e).0 in absurd (omega (arith, h))

placed_name : (k : ℕ) (n : List ℕ) → IsName n → IsName (placed k n)
placed_name k n h = (
  omega (arith, length-append (replicate {A = ℕ} k 97) (98 ∷ n)),
  λ b q. ⊎_elim
      (λ a. let s : b ≡ 97 = in_replicate b 97 k a in inl (omega arith, omega arith))
      (λ a. ⊎_elim (λ s. inl (omega arith, omega arith)) (λ c. h.1 b c) a)
      (in_append_cases b (replicate k 97) (98 ∷ n) q),
)

renaming : (k : ℕ) → IsRenaming (placed k)
renaming k = record { differ = placed_differ k; names = placed_name k }

root_name : IsName root
root_name = (omega arith, λ b h. ⊎_elim (λ e. inl (omega arith, omega arith)) (λ e. absurd e) h)

length-renamed : (f : ℕ → List ℕ → List ℕ) (k : ℕ) (runs : List (List Event)) → length (renamed_from f k runs) ≡ length runs
length-renamed f k [] = refl
length-renamed f k (e ∷ runs) = ap suc (length-renamed f (suc k) runs)

renamed_at : (f : ℕ → List ℕ → List ℕ) (j : ℕ) (runs : List (List Event)) (k : ℕ) → k < length runs → run_at (renamed_from f j runs) k ≡ map (rename_event (f (j + k))) (run_at runs k)
renamed_at f j [] k l = absurd (omega arith)
renamed_at f j (e ∷ runs) zero l = ap (λ z. map (rename_event (f z)) e) (let w : j ≡ j + zero = omega arith in w)
renamed_at f j (e ∷ runs) (suc k) l = renamed_at f (suc j) runs k (omega arith) ∙ ap (λ z. map (rename_event (f z)) (run_at runs k)) (let w : suc j + k ≡ j + suc k = omega arith in w)

module _ (g : Grammar) (p : ℕ) (runs : List (List Event)) (wf : IsWellFormed g) (are : AreRuns g p runs) where
  abbrev renamed : List (List Event)
  renamed = renamed_from placed 0 runs

  in_range : (k : ℕ) → k < length renamed → k < length runs
  in_range k l = omega (arith, length-renamed placed 0 runs)

  run_is : (k : ℕ) → k < length runs → run_at renamed k ≡ map (rename_event (placed k)) (run_at runs k)
  run_is k l = renamed_at placed 0 runs k l ∙ ap (λ z. map (rename_event (placed z)) (run_at runs k)) (let w : 0 + k ≡ k = omega arith in w)

  not_empty : (k : ℕ) (e : List Event) → e ≢ [] → map (rename_event (placed k)) e ≢ []
  not_empty k [] n q = n refl
  not_empty k (x ∷ e) n q = absurd (cc)

  are_runs : AreRuns g p renamed
  are_runs = record {
    in_range = are.in_range;
    one_each = length-renamed placed 0 runs ∙ are.one_each;
    run = λ k h. let l = in_range k h in subst (IsRun g (place_module g p k)) (sym (run_is k l)) (rename_law (placed k) (renaming k) g (default_view g) (place_module g p k) (run_at runs k) wf (are.run k l)).run;
    started = λ k h. let l = in_range k h in subst (λ e. e ≢ []) (sym (run_is k l)) (not_empty k (run_at runs k) (are.started k l));
  }

  -- the names of the k-th run
  placed_at : (k : ℕ) (n : List ℕ) → k < length renamed → IsIn n (names_at g p renamed k) → (a : List ℕ) × (n ≡ placed k a)
  placed_at k n h i =
      let l = in_range k h in
      let m = place_module g p k in
      let same = rename_law (placed k) (renaming k) g (default_view g) m (run_at runs k) wf (are.run k l) in
      let names : names_at g p renamed k ≡ map (placed k) (names_at g p runs k) =
      ap (λ e. names_of (made g m e)) (run_is k l) ∙ (ap names_of same.instances ∙ renamed_names (placed k) (renaming k) (made g m (run_at runs k))) in
      let q = in_map_from (placed k) n (names_at g p runs k) (subst (IsIn n) names i) in
      (q.0, q.2)

  are_apart : AreApart g root p renamed
  are_apart = record {
    root = root_name;
    apart = λ j k n hj hk a b. let x = placed_at j n hj a in let y = placed_at k n hk b in one_place j k x.0 y.0 (sym x.1 ∙ y.1);
    new = λ k h i. let x = placed_at k root h i in not_root k x.0 x.1;
  }

pub fresh_graft_law : FreshGraftLaw
fresh_graft_law = (record { root = root; name = placed }, renaming, λ g p runs wf are. (are_runs g p runs wf are, are_apart g p runs wf are))
