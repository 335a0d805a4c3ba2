-- The instances of a table, among those that the events make.
use Rattle.std.proofs.Common.{◌≡◌, ℕ, zero, suc, ◌<◌, Bool, true, false, ◌||◌, cond, List, [], ◌∷◌, map, get_or, length, Option, Some, None, refl, ap, sym, subst, ◌∙◌, arith}
use Rattle.std.specs.Prelude.{position, bytes_eq, is_some, option_map}
use Rattle.std.proofs.lemmas.List.{length-map, get_or-map, get_or_read}
use Rattle.std.proofs.lemmas.List.Quantifiers.{position-Some}
use Rattle.std.proofs.lemmas.Simd.{map-map}
use Rattle.wf_model.specs.Lists.{IsAt, some}
use Rattle.wf_model.specs.Grammar.{Grammar}
use Rattle.wf_model.specs.Run.{Instance, made, names_of, expanded_by}
use Rattle.wf_model.specs.Faults.{is_one_of, module_in}
use Rattle.wf_model.proofs.Lists.{is_at, same_bytes, bytes_same, among_gives}
use Rattle.wf_model.proofs.Mapping.{at_map}
use Rattle.wf_flat.proofs.Dots.{none_passes}
use Rattle.wf_flat.specs.declared.table.Inst.{Inst}
use Rattle.wf_flat.specs.Table.{Table, IsTableOf, instance_of, names_in, no_instance, events_of, expansion_at}

pub placed : (n : List ℕ) (ns : List (List ℕ)) (k : ℕ) → k < length ns → bytes_eq n (get_or ns k []) ≡ true → some (bytes_eq n) ns ≡ true
placed n [] k h e = absurd (omega arith)
placed n (m ∷ ns) zero h e = ap (λ b. b || some (bytes_eq n) ns) e
placed n (m ∷ ns) (suc k) h e = let r : k < length ns = omega arith in let q = placed n ns k r e in grind arith

-- the module of the first instance of a name
pub module_placed : (n : List ℕ) (is : List Instance) (k : ℕ) (i : Instance) → IsAt i k is → bytes_eq n i.name ≡ true → ((j : ℕ) → j < k → bytes_eq n (get_or (names_of is) j []) ≡ false) → module_in is n ≡ i.module_no
module_placed n [] k i h e f = absurd h
module_placed n (x ∷ is) zero i h e f = ap (λ b. cond b x.module_no (module_in is n)) (subst (λ z. bytes_eq n z.name ≡ true) h e) ∙ ap (λ (z : Instance). z.module_no) (sym h)
module_placed n (x ∷ is) (suc k) i h e f =
    let z : 0 < suc k = omega arith in
    ap (λ b. cond b x.module_no (module_in is n)) (f 0 z) ∙ module_placed n is k i h e (λ j l. let s : suc j < suc k = omega arith in f (suc j) s)

is_some-map : {A B : Type 0} (f : A → B) (o : Option A) → is_some (option_map f o) ≡ is_some o
is_some-map f None = refl
is_some-map f (Some x) = refl

module _ (g : Grammar) (t : Table) (run : IsTableOf g t) where
  pub same_names : names_of (made g g.start (events_of t)) ≡ names_in t.instances
  same_names = ap names_of (sym run.made) ∙ map-map (λ (i : Instance). i.name) instance_of t.instances

  pub same_count : length (made g g.start (events_of t)) ≡ length t.instances
  same_count = ap length (sym run.made) ∙ length-map t.instances instance_of

  pub unknown : (i : List ℕ) → position (bytes_eq i) (names_in t.instances) ≡ None → is_one_of (names_of (made g g.start (events_of t))) i ≡ false
  unknown i e = ap (λ l. is_one_of l i) same_names ∙ go (is_one_of (names_in t.instances) i) refl
    where
      go : (b : Bool) → is_one_of (names_in t.instances) i ≡ b → is_one_of (names_in t.instances) i ≡ false
      go true q = absurd (none_passes (bytes_eq i) (names_in t.instances) e i (among_gives i (names_in t.instances) q) (bytes_same i i refl))
      go false q = q

  pub known : (i : List ℕ) (k : ℕ) → position (bytes_eq i) (names_in t.instances) ≡ Some k → is_one_of (names_of (made g g.start (events_of t))) i ≡ true
  known i k e = let p = position-Some (bytes_eq i) (names_in t.instances) k [] e in ap (λ l. is_one_of l i) same_names ∙ placed i (names_in t.instances) k p.0 p.1

  -- the instance of a name, in the table
  pub its_name : (i : List ℕ) (k : ℕ) → position (bytes_eq i) (names_in t.instances) ≡ Some k → (k < length t.instances) × (i ≡ (get_or t.instances k no_instance).name)
  its_name i k e =
      let p = position-Some (bytes_eq i) (names_in t.instances) k [] e in
      let l : k < length t.instances = subst (λ n. k < n) (length-map t.instances (λ (x : Inst). x.name)) p.0 in
      (l, same_bytes i _ (p.1) ∙ get_or-map (λ (x : Inst). x.name) t.instances k no_instance [] l)

  pub its_module : (i : List ℕ) (k : ℕ) → position (bytes_eq i) (names_in t.instances) ≡ Some k → module_in (made g g.start (events_of t)) i ≡ (get_or t.instances k no_instance).module.0
  its_module i k e =
      let p = position-Some (bytes_eq i) (names_in t.instances) k [] e in
      let q = its_name i k e in
      ap (λ l. module_in l i) (sym run.made) ∙
      module_placed i (map instance_of t.instances) k (instance_of (get_or t.instances k no_instance)) (at_map instance_of (get_or t.instances k no_instance) k t.instances (is_at k t.instances no_instance q.0))
      (subst (λ z. bytes_eq i z ≡ true) (get_or-map (λ (x : Inst). x.name) t.instances k no_instance [] q.0) p.1)
      (λ j l. subst (λ z. bytes_eq i (get_or z j []) ≡ false) (sym (map-map (λ (i : Instance). i.name) instance_of t.instances)) (p.2 j l))

  pub its_expansion : (i : List ℕ) (k : ℕ) → position (bytes_eq i) (names_in t.instances) ≡ Some k → is_some (expanded_by (events_of t) i) ≡ is_some (get_or t.instances k no_instance).production
  its_expansion i k e =
      let q = its_name i k e in
      ap (λ n. is_some (expanded_by (events_of t) n)) q.1 ∙ (ap is_some (run.expanded k (get_or t.instances k no_instance) (is_at k t.instances no_instance q.0)) ∙ by (get_or t.instances k no_instance))
    where
      by : (x : Inst) → is_some (expansion_at g (names_in t.instances) x) ≡ is_some x.production
      by x = is_some-map _ x.production

  -- the same, where the instance was read from the fields
  pub its_read : (i : List ℕ) (k : ℕ) (xs : List Inst) (x : Inst) → position (bytes_eq i) (names_in t.instances) ≡ Some k → xs ≡ t.instances → x ≡ get_or xs k x → x ≡ get_or t.instances k no_instance
  its_read i k xs x e h r = get_or_read t.instances k x (its_name i k e).0 (r ∙ ap (λ l. get_or l k x) h) no_instance
