-- What is seen of a run, by number.
use Rattle.std.proofs.Common.{◌≡◌, ℕ, zero, suc, ◌+◌, ◌<◌, ◌≤◌, Bool, true, false, cond, ◌||◌, ◌&&◌, List, [], ◌∷◌, ◌++◌, map, take, drop, set, length, get_or, refl, ap, sym, subst, ◌∙◌, arith, inl, inr, ⊎_elim, true≢false}
use Rattle.std.specs.Prelude.{◌==◌, bytes_eq}
use Rattle.std.proofs.lemmas.Bool.Decides.{nat_tests}
use Rattle.std.proofs.lemmas.List.{map-append, length-map, get_or-map, get_or-set_same, get_or-set_other, drop_more, get_or_default}
use Rattle.wf_model.specs.Lists.{IsIn, IsAt, AllDiffer, some, numbers_from}
use Rattle.wf_model.specs.Grammar.{Grammar, body_of}
use Rattle.wf_model.specs.View.{View, expands}
use Rattle.wf_model.specs.Run.{Instance, named, opens, newly_seen, see_all, seen_in}
use Rattle.wf_model.proofs.Lists.{in_append_cases, at_in, is_at, differ_at, same_bytes, bytes_same}
use Rattle.wf_model.proofs.Taking.{run_differs}
use Rattle.wf_model.proofs.Level.{in_numbers}
use Rattle.wf_model.proofs.Joined.{some-append}
use Rattle.wf_model.proofs.Mapping.{at_map}
use Rattle.wf_flat.specs.declared.table.Inst.{Inst}
use Rattle.wf_flat.specs.declared.table.Opened.{Opened}
use Rattle.wf_flat.specs.Table.{Table, IsTableOf, IsOpenedIn, instance_of, names_in, given_names, expansion_of, events_by, events_of, no_instance}
use Rattle.wf_flat.specs.Graph.{flag_of, Marks, Agree, inst_at}
use Rattle.wf_flat.proofs.Instances.{same_names}

-- one number more has its flag, where those of the list have theirs and all others have none
pub flag_more : (w : ℕ → Bool) (flags : List Bool) (seen : List ℕ) (c : ℕ) → c < length flags → ((j : ℕ) → flag_of flags j ≡ some (λ z. z == j) seen && w j) → (j : ℕ) → flag_of (set flags c (w c)) j ≡ some (λ z. z == j) (seen ++ c ∷ []) && w j
flag_more w flags seen c h a j = go (c == j) refl
  where
    go : (b : Bool) → c == j ≡ b → flag_of (set flags c (w c)) j ≡ some (λ z. z == j) (seen ++ c ∷ []) && w j
    go true e =
        let d : c ≡ j = grind (arith, nat_tests) in
        let f : flag_of (set flags c (w c)) j ≡ w j = subst (λ z. flag_of (set flags c (w c)) z ≡ w z) d (get_or-set_same flags c (w c) false h) in
        f ∙ sym (ap (λ b. b && w j) (some-append (λ z. z == j) seen (c ∷ []) ∙ ap (λ b. some (λ z. z == j) seen || (b || false)) e) ∙ by (some (λ z. z == j) seen) (w j))
      where
        by : (s b : Bool) → (s || (true || false)) && b ≡ b
        by true b = refl
        by false b = refl
    go false e =
        let d : j ≡ c → ⊥ = λ (q : j ≡ c). (let z : c == j ≡ true = grind (arith, nat_tests) in true≢false (sym z ∙ e)) in
        get_or-set_other flags c j (w c) false d ∙ (a j ∙ sym (ap (λ b. b && w j) (some-append (λ z. z == j) seen (c ∷ []) ∙ (ap (λ b. some (λ z. z == j) seen || (b || false)) e ∙ by (some (λ z. z == j) seen)))))
      where
        by : (b : Bool) → b || (false || false) ≡ b
        by true = refl
        by false = refl

-- one number more is marked
pub agree_more : (flags : List Bool) (seen : List ℕ) (c : ℕ) → c < length flags → Agree flags seen → Agree (set flags c true) (seen ++ c ∷ [])
agree_more flags seen c h a j = flag_more (λ j. true) flags seen c h (λ k. a k ∙ sym (by (some (λ z. z == k) seen))) j ∙ by (some (λ z. z == j) (seen ++ c ∷ []))
  where
    by : (b : Bool) → b && true ≡ b
    by true = refl
    by false = refl

-- a range of numbers, as a part of a list
pub range_part : {A B : Type 0} (f : A → B) (xs : List A) (d : A) (a n : ℕ) → a + n ≤ length xs → map (λ k. f (get_or xs k d)) (numbers_from a n) ≡ take n (drop a (map f xs))
range_part f xs d a zero h = refl
range_part f xs d a (suc n) h =
    let low : a < length xs = omega arith in
    let low' : a < length (map f xs) = omega (arith, length-map xs f) in
    let room : suc a + n ≤ length xs = omega arith in
    let e : drop a (map f xs) ≡ f (get_or xs a d) ∷ drop (suc a) (map f xs) = drop_step f xs d a low in
    ap (λ l. f (get_or xs a d) ∷ l) (range_part f xs d (suc a) n room) ∙ ap (take (suc n)) (sym e)
  where
    drop_step : {A B : Type 0} (f : A → B) (xs : List A) (d : A) (a : ℕ) → a < length xs → drop a (map f xs) ≡ f (get_or xs a d) ∷ drop (suc a) (map f xs)
    drop_step f [] d a h = absurd (omega arith)
    drop_step f (x ∷ xs) d zero h = refl
    drop_step f (x ∷ xs) d (suc a) h = let r : a < length xs = omega arith in drop_step f xs d a r

module _ (g : Grammar) (t : Table) (run : IsTableOf g t) where
  pub all_differ : AllDiffer (names_in t.instances)
  all_differ = subst AllDiffer (same_names g t run) (run_differs g g.start (events_of t) run.accepted.0)

  -- two instances of one name are one
  same_number : (c k : ℕ) → c < length t.instances → k < length t.instances → (get_or t.instances c no_instance).name ≡ (get_or t.instances k no_instance).name → c ≡ k
  same_number c k h l e =
      differ_at (get_or t.instances k no_instance).name c k (names_in t.instances) all_differ
      (subst (λ z. IsAt z c (names_in t.instances)) e (at_map (λ (x : Inst). x.name) (get_or t.instances c no_instance) c t.instances (is_at c t.instances no_instance h)))
      (at_map (λ (x : Inst). x.name) (get_or t.instances k no_instance) k t.instances (is_at k t.instances no_instance l))

  -- an instance is open where it is among those seen and the view expands its module
  pub opens_number : (u : View) (seen : List ℕ) (k : ℕ) → k < length t.instances → ((c : ℕ) → IsIn c seen → c < length t.instances) →
      opens u (map (inst_at t.instances) seen) (get_or t.instances k no_instance).name ≡ some (λ c. c == k) seen && expands u (get_or t.instances k no_instance).module.0
  opens_number u [] k h l = refl
  opens_number u (c ∷ seen) k h l = go (opens_number u seen k h (λ z i. l z (inr i))) (c == k) refl
    where
      name : ℕ → List ℕ
      name j = (get_or t.instances j no_instance).name

      go : opens u (map (inst_at t.instances) seen) (get_or t.instances k no_instance).name ≡ some (λ c. c == k) seen && expands u (get_or t.instances k no_instance).module.0 → (b : Bool) → c == k ≡ b →
          (bytes_eq (get_or t.instances c no_instance).name (get_or t.instances k no_instance).name && expands u (get_or t.instances c no_instance).module.0) || opens u (map (inst_at t.instances) seen) (get_or t.instances k no_instance).name ≡ (c == k || some (λ c. c == k) seen) && expands u (get_or t.instances k no_instance).module.0
      go ih true e =
          let d : c ≡ k = grind (arith, nat_tests) in
          let ex = expands u (get_or t.instances k no_instance).module.0 in
          let s = some (λ c. c == k) seen in
          ap (λ z. (bytes_eq (name z) (name k) && expands u (get_or t.instances z no_instance).module.0) || opens u (map (inst_at t.instances) seen) (name k)) d
          ∙ (ap (λ b. (b && ex) || opens u (map (inst_at t.instances) seen) (name k)) (bytes_same (name k) (name k) refl)
          ∙ (ap (λ o. (true && ex) || o) ih ∙ (by s ex ∙ ap (λ b. (b || s) && ex) (sym e))))
        where
          by : (s e : Bool) → (true && e) || (s && e) ≡ (true || s) && e
          by true true = refl
          by true false = refl
          by false true = refl
          by false false = refl
      go ih false e =
          ap (λ b. (b && expands u (get_or t.instances c no_instance).module.0) || opens u (map (inst_at t.instances) seen) (name k)) (far (bytes_eq (name c) (name k)) refl)
          ∙ (ih ∙ ap (λ b. (b || some (λ c. c == k) seen) && expands u (get_or t.instances k no_instance).module.0) (sym e))
        where
          far : (b : Bool) → bytes_eq (name c) (name k) ≡ b → bytes_eq (name c) (name k) ≡ false
          far false q = q
          far true q = let d : c ≡ k = same_number c k (l c (inl refl)) h (same_bytes (name c) (name k) q) in let z : c == k ≡ true = grind (arith, nat_tests) in absurd (true≢false (sym z ∙ e))

  pub name_at : (k : ℕ) → k < length t.instances → get_or (names_in t.instances) k [] ≡ (get_or t.instances k no_instance).name
  name_at k h = get_or-map (λ (x : Inst). x.name) t.instances k no_instance [] h

  -- one expansion more
  pub see_step : (u : View) (flags marks : List Bool) (seen : List ℕ) (o : Opened) → Marks marks u → IsIn o t.order → IsOpenedIn (length t.instances) o → Agree flags seen → ((c : ℕ) → IsIn c seen → c < length t.instances) →
      map (inst_at t.instances) (seen ++ cond (flag_of flags o.instance && flag_of marks (get_or t.instances o.instance no_instance).module.0) (numbers_from o.first o.count) []) ≡ map (inst_at t.instances) seen ++ newly_seen g u g.start (map (inst_at t.instances) seen) (expansion_of (names_in t.instances) o)
  see_step u flags marks seen o mk io h a l =
      map-append (inst_at t.instances) seen (cond b (numbers_from o.first o.count) [])
      ∙ ap (λ z. map (inst_at t.instances) seen ++ z)
      (go b
      ∙ (ap (λ z. cond b z []) (range_part instance_of t.instances no_instance o.first o.count h.2 ∙ run.ordered o io)
      ∙ ap (λ z. cond z (named (given_names (names_in t.instances) o) (body_of g o.production.0)) []) same))
    where
      b : Bool
      b = flag_of flags o.instance && flag_of marks (get_or t.instances o.instance no_instance).module.0

      go : (z : Bool) → map (inst_at t.instances) (cond z (numbers_from o.first o.count) []) ≡ cond z (map (inst_at t.instances) (numbers_from o.first o.count)) []
      go true = refl
      go false = refl

      same : b ≡ opens u (map (inst_at t.instances) seen) (get_or (names_in t.instances) o.instance [])
      same =
          ap (λ z. z && flag_of marks (get_or t.instances o.instance no_instance).module.0) (a o.instance)
          ∙ (ap (λ z. some (λ c. c == o.instance) seen && z) (sym (mk (get_or t.instances o.instance no_instance).module.0))
          ∙ (sym (opens_number u seen o.instance h.0 l)
          ∙ ap (opens u (map (inst_at t.instances) seen)) (sym (name_at o.instance h.0))))

  pub seen_below : (seen : List ℕ) (o : Opened) (b : Bool) → IsOpenedIn (length t.instances) o → ((c : ℕ) → IsIn c seen → c < length t.instances) → (c : ℕ) → IsIn c (seen ++ cond b (numbers_from o.first o.count) []) → c < length t.instances
  seen_below seen o b h l c i = ⊎_elim (λ a. l c a) (λ a. go b a) (in_append_cases c seen (cond b (numbers_from o.first o.count) []) i)
    where
      go : (b : Bool) → IsIn c (cond b (numbers_from o.first o.count) []) → c < length t.instances
      go true a = let r = in_numbers c o.first o.count a in let q : o.first + o.count ≤ length t.instances = h.2 in omega arith
      go false a = absurd a

  pub none_seen : (u : View) → length t.instances ≡ 0 → ((o : Opened) → IsIn o t.order → IsOpenedIn (length t.instances) o) → [] ≡ seen_in g u g.start (events_of t)
  none_seen u h k = go t.instances refl t.order refl
    where
      go : (xs : List Inst) → t.instances ≡ xs → (os : List Opened) → t.order ≡ os → [] ≡ seen_in g u g.start (events_of t)
      go [] e [] f = sym (ap (λ l. seen_in g u g.start (events_by (names_in l) t.order)) e ∙ ap (λ l. seen_in g u g.start (events_by [] l)) f)
      go [] e (o ∷ os) f = let r = (k o (subst (IsIn o) (sym f) (inl refl))).0 in absurd (omega arith)
      go (x ∷ xs) e os f = let l = ap length e in absurd (omega arith)

  pub told_more : (u : View) (flags marks : List Bool) (seen new : List ℕ) (i : ℕ) (o : Opened) (all : List Instance) → Marks marks u → o ≡ get_or t.order i o → i < length t.order → IsOpenedIn (length t.instances) o → Agree flags seen → ((c : ℕ) → IsIn c seen → c < length t.instances) →
      new ≡ seen ++ cond (flag_of flags o.instance && flag_of marks (get_or t.instances o.instance no_instance).module.0) (numbers_from o.first o.count) [] →
      see_all g u g.start (map (inst_at t.instances) seen) (map (expansion_of (names_in t.instances)) (drop i t.order)) ≡ all →
      see_all g u g.start (map (inst_at t.instances) new) (map (expansion_of (names_in t.instances)) (drop (i + 1) t.order)) ≡ all
  told_more u flags marks seen new i o all mk at l h a th e told =
      let d : drop i t.order ≡ o ∷ drop (i + 1) t.order = drop_more t.order i o l ∙ ap (λ z. z ∷ drop (i + 1) t.order) (sym at) in
      let io : IsIn o t.order = subst (λ z. IsIn z t.order) (sym at) (at_in (get_or t.order i o) i t.order (is_at i t.order o l)) in
      ap (λ z. see_all g u g.start z (map (expansion_of (names_in t.instances)) (drop (i + 1) t.order))) (ap (map (inst_at t.instances)) e ∙ see_step u flags marks seen o mk io h a th)
      ∙ (ap (λ z. see_all g u g.start (map (inst_at t.instances) seen) (map (expansion_of (names_in t.instances)) z)) (sym d) ∙ told)

  pub told_step : (u : View) (flags marks : List Bool) (seen new : List ℕ) (i : ℕ) (os : List Opened) (d : Opened) (all : List Instance) → Marks marks u → os ≡ t.order → i < length os → IsOpenedIn (length t.instances) (get_or os i d) → Agree flags seen → ((c : ℕ) → IsIn c seen → c < length t.instances) →
      new ≡ seen ++ cond (flag_of flags (get_or os i d).instance && flag_of marks (get_or t.instances (get_or os i d).instance no_instance).module.0) (numbers_from (get_or os i d).first (get_or os i d).count) [] →
      see_all g u g.start (map (inst_at t.instances) seen) (map (expansion_of (names_in t.instances)) (drop i os)) ≡ all →
      see_all g u g.start (map (inst_at t.instances) new) (map (expansion_of (names_in t.instances)) (drop (i + 1) os)) ≡ all
  told_step u flags marks seen new i os d all mk eo l h a th e told =
      let l' : i < length t.order = subst (λ z. i < length z) eo l in
      let at : get_or os i d ≡ get_or t.order i (get_or os i d) = ap (λ z. get_or z i d) eo ∙ get_or_default t.order i d (get_or os i d) l' in
      ap (λ z. see_all g u g.start (map (inst_at t.instances) new) (map (expansion_of (names_in t.instances)) (drop (i + 1) z))) eo
      ∙ told_more u flags marks seen new i (get_or os i d) all mk at l' h a th e (ap (λ z. see_all g u g.start (map (inst_at t.instances) seen) (map (expansion_of (names_in t.instances)) (drop i z))) (sym eo) ∙ told)

  pub there_more : (seen new : List ℕ) (o : Opened) (b : Bool) → IsOpenedIn (length t.instances) o → ((c : ℕ) → IsIn c seen → c < length t.instances) → new ≡ seen ++ cond b (numbers_from o.first o.count) [] → (c : ℕ) → IsIn c new → c < length t.instances
  there_more seen new o b h l e c i = seen_below seen o b h l c (subst (IsIn c) e i)
