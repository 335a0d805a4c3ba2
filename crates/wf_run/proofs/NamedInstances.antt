-- The instance of a name in a run, by its number.
use Rattle.std.proofs.Common.{◌≡◌, ℕ, ◌<◌, Bool, true, false, List, [], ◌∷◌, length, get_or, Option, Some, None, refl, ap, sym, subst, ◌∙◌, arith}
use Rattle.std.specs.Prelude.{position, bytes_eq, is_some, option_map, IfSome}
use Rattle.std.specs.List.{position_or_len}
use Rattle.std.proofs.lemmas.Grind.{common_steps}
use Rattle.std.proofs.lemmas.List.{length-map, get_or-map}
use Rattle.std.proofs.lemmas.List.Sums.{fails_before_first}
use Rattle.std.proofs.lemmas.List.Quantifiers.{position-Some}
use Rattle.std.proofs.lemmas.Bool.{true≢false}
use Rattle.wf_model.specs.Lists.{IsAt, AllDiffer, some}
use Rattle.wf_model.specs.declared.event.Event.{Event}
use Rattle.wf_model.specs.declared.event.Event.TheVariants.{Start, Expand}
use Rattle.wf_model.specs.Faults.{is_nil, is_one_of, module_in}
use Rattle.wf_model.specs.Run.{Instance, made, names_of, expanded_by, IsRun}
use Rattle.wf_model.proofs.Lists.{some_from, some_gives, same_bytes, at_below, at_is, is_at, at_in, in_at}
use Rattle.wf_model.proofs.Differ.{one_of_name}
use Rattle.wf_model.proofs.Taking.{run_differs, module_gives}
use Rattle.wf_run.specs.declared.node.NodeNo.{NodeNo}
use Rattle.wf_run.specs.Runs.{Node, RunSeen, node_at, name_at, IsExpandedAs, IsRunOf}

-- where a test has no place, no element passes it
pub no_place : {A : Type 0} (p : A → Bool) (xs : List A) → position p xs ≡ None → some p xs ≡ false
no_place {A} p xs e = go (some p xs) refl
  where
    go : (b : Bool) → some p xs ≡ b → some p xs ≡ false
    go true h =
        let x = some_gives p xs h in
        let k = in_at x.0 xs x.1 in
        let l : k.0 < position_or_len p xs = let s = at_below x.0 k.0 xs k.1 in grind (arith, common_steps) in
        absurd (true≢false (sym x.2 ∙ (ap p (sym (at_is x.0 k.0 xs x.0 k.1)) ∙ fails_before_first p xs k.0 x.0 l)))
    go false h = h

abbrev pub instance_of : List ℕ → ℕ → Instance
instance_of n m = record { name = n; module_no = m }

abbrev pub none_there : Instance
none_there = record { name = []; module_no = 0 }

-- the instances that the events make
abbrev pub instances_of : RunSeen → List Event → List Instance
instances_of r events = made r.grammar.core r.grammar.core.start events

module _ (r : RunSeen) (events : List Event) (run : IsRunOf r events) where
  pub same_names : names_of (instances_of r events) ≡ r.names
  same_names = sym run.names

  -- an instance is counted once as it is kept and once as it is made
  pub same_count : length (instances_of r events) ≡ length r.nodes
  same_count = sym (length-map (instances_of r events) (λ (i : Instance). i.module_no)) ∙ (ap length (sym run.modules) ∙ length-map r.nodes (λ (n : Node). n.module_no))

  pub names_count : length r.names ≡ length r.nodes
  names_count = ap length run.names ∙ (length-map (instances_of r events) (λ (i : Instance). i.name) ∙ same_count)

  pub names_differ : AllDiffer r.names
  names_differ = subst AllDiffer same_names (run_differs r.grammar.core r.grammar.core.start events run.accepted.0)

  -- the instance of a number, among those that are made
  pub instance_at : (k : ℕ) → k < length r.nodes → IsAt (instance_of (name_at r k) (node_at r k).module_no) k (instances_of r events)
  instance_at k h = subst (λ (i : Instance). IsAt i k (instances_of r events)) same (is_at k (instances_of r events) none_there l)
    where
      l : k < length (instances_of r events)
      l = let c = same_count in omega arith

      name : (get_or (instances_of r events) k none_there).name ≡ name_at r k
      name = sym (get_or-map (λ (i : Instance). i.name) (instances_of r events) k none_there [] l) ∙ ap (λ ns. get_or ns k []) (sym run.names)

      its : (get_or (instances_of r events) k none_there).module_no ≡ (node_at r k).module_no
      its =
          sym (get_or-map (λ (i : Instance). i.module_no) (instances_of r events) k none_there 0 l)
          ∙ (ap (λ ms. get_or ms k 0) (sym run.modules) ∙ get_or-map (λ (n : Node). n.module_no) r.nodes k (record { module_no = 0; children = None; bits = []; chain = None }) 0 h)

      same : get_or (instances_of r events) k none_there ≡ instance_of (name_at r k) (node_at r k).module_no
      same = ap (λ n. instance_of n (get_or (instances_of r events) k none_there).module_no) name ∙ ap (instance_of (name_at r k)) its

  -- a run with no instance has no event
  pub no_event : length r.nodes ≡ 0 → events ≡ []
  no_event e = go events run.accepted.0 (same_count ∙ e)
    where
      go : (a : List Event) → IsRun r.grammar.core r.grammar.core.start a → length (instances_of r a) ≡ 0 → a ≡ []
      go [] x h = refl
      go (Start n ∷ a) x h = absurd (omega (arith, h))
      go (Expand i p names ∷ a) x h = absurd x.0.stands

  -- and one with an instance has one
  pub some_event : 0 < length r.nodes → is_nil events ≡ false
  some_event h = go events same_count
    where
      go : (a : List Event) → length (instances_of r a) ≡ length r.nodes → is_nil a ≡ false
      go [] e = absurd (omega arith)
      go (x ∷ a) e = refl

  pub unknown : (name : List ℕ) → position (bytes_eq name) r.names ≡ None → is_one_of (names_of (instances_of r events)) name ≡ false
  unknown name e = ap (λ l. is_one_of l name) same_names ∙ no_place (bytes_eq name) r.names e

  -- the number of a name is that of an instance with this name
  pub its_name : (name : List ℕ) (k : ℕ) → position (bytes_eq name) r.names ≡ Some k → (k < length r.nodes) × (name ≡ name_at r k)
  its_name name k e = let p = position-Some (bytes_eq name) r.names k [] e in (subst (λ n. k < n) names_count p.0, same_bytes name (name_at r k) p.1)

  -- what a look-up of a name gives is the number of an instance, where it gives one
  pub found_there : (name : List ℕ) (found : Option NodeNo) → option_map (λ (n : NodeNo). n.0) found ≡ position (bytes_eq name) r.names → IfSome found (λ n. n.0 < length r.nodes)
  found_there name None e = tt
  found_there name (Some n) e = (its_name name n.0 (sym e)).0

  pub known : (name : List ℕ) (k : ℕ) → position (bytes_eq name) r.names ≡ Some k → is_one_of (names_of (instances_of r events)) name ≡ true
  known name k e =
      let p = position-Some (bytes_eq name) r.names k [] e in
      ap (λ l. is_one_of l name) same_names ∙ some_from (bytes_eq name) (name_at r k) r.names (at_in (name_at r k) k r.names (is_at k r.names [] p.0)) p.1

  pub its_module : (name : List ℕ) (k : ℕ) → position (bytes_eq name) r.names ≡ Some k → module_in (instances_of r events) name ≡ (node_at r k).module_no
  its_module name k e =
      let q = its_name name k e in
      ap (λ (i : Instance). i.module_no)
      (one_of_name (instances_of r events) (run_differs r.grammar.core r.grammar.core.start events run.accepted.0) (instance_of name (module_in (instances_of r events) name)) (instance_of (name_at r k) (node_at r k).module_no)
      (module_gives (instances_of r events) name (known name k e)) (at_in _ k (instances_of r events) (instance_at k q.0)) q.1)

  pub its_expansion : (name : List ℕ) (k : ℕ) → position (bytes_eq name) r.names ≡ Some k → is_some (expanded_by events name) ≡ is_some (node_at r k).children
  its_expansion name k e =
      let q = its_name name k e in
      ap (λ n. is_some (expanded_by events n)) q.1 ∙ by (node_at r k).children (run.each k q.0).children
    where
      by : (o : Option (List ℕ)) → IsExpandedAs r events (name_at r k) o → is_some (expanded_by events (name_at r k)) ≡ is_some o
      by None h = ap is_some h
      by (Some ks) h = ap is_some h.1
