-- A table that grows, and its instances by number.
use Rattle.std.proofs.Common.{◌≡◌, ℕ, ◌+◌, ◌≤◌, false, List, [], take, drop, length, get_or, Option, Some, None, option_map, refl, sym, ap, ◌∙◌, subst, arith}
use Rattle.std.specs.Prelude.{position, bytes_eq}
use Rattle.std.specs.List.{slice_range}
use Rattle.std.specs.Cmp.Lexicographic.{pointwise, unequal}
use Rattle.std.proofs.lemmas.List.{drop-map, length-drop, length-map, length-take-le}
use Rattle.std.proofs.lemmas.Option.{none-some}
use Rattle.std.proofs.Math.Seq.{take-length}
use Rattle.wf_model.specs.declared.event.Event.{Event}
use Rattle.wf_model.specs.declared.event.Event.TheVariants.{Start, Expand}
use Rattle.wf_model.specs.declared.numbers.ProdNo.{ProdNo}
use Rattle.wf_model.specs.Grammar.{Grammar, body_of}
use Rattle.wf_model.specs.Lists.{IsAt}
use Rattle.wf_model.specs.Run.{Expanded, made, names_of, expanded_by}
use Rattle.wf_model.proofs.Lists.{is_at}
use Rattle.wf_flat.specs.declared.table.Inst.{Inst}
use Rattle.wf_flat.specs.Table.{Table, IsTableOf, IsFoundFor, names_in, no_instance, events_of, expansion_at}
use Rattle.wf_flat.proofs.Instances.{same_names, its_name}
use Rattle.wf_intake.specs.Applied.{number_of}
use Rattle.wf_inputs.specs.Reporting.{GrowingSeen, IsGrownBy}

-- the names of its instances are those that its events make
pub names_grown : (r : GrowingSeen) (events : List Event) → IsGrownBy r events → names_in r.run.instances ≡ names_of (made r.grammar r.grammar.start events)
names_grown r events at = sym (same_names r.grammar r.run at.run) ∙ ap (λ es. names_of (made r.grammar r.grammar.start es)) at.events

-- so a name has its place among them
pub place_of_name : (r : GrowingSeen) (events : List Event) → IsGrownBy r events → (name : List ℕ) → position (bytes_eq name) (names_in r.run.instances) ≡ position (bytes_eq name) (names_of (made r.grammar r.grammar.start events))
place_of_name r events at name = ap (position (bytes_eq name)) (names_grown r events at)

-- so the number of the instance that an event expands is what a look-up of it gives
pub found_for : (r : GrowingSeen) → IsTableOf r.grammar r.run → (e : Event) (number : Option ℕ) → ((events : List Event) → IsGrownBy r events → number ≡ number_of r.grammar events e) → IsFoundFor r.run e number
found_for r run (Start root) number told = tt
found_for r run (Expand i p names) number told = let at : IsGrownBy r (events_of r.run) = record { run = run; events = refl } in told (events_of r.run) at ∙ sym (place_of_name r (events_of r.run) at i)

-- the names of an expansion, and none of no expansion
abbrev pub names_told : Option Expanded → List (List ℕ)
names_told None = []
names_told (Some e) = e.names

-- the end of a list
to_end : {A : Type 0} (xs : List A) (k : ℕ) → slice_range xs k (length xs) ≡ drop k xs
to_end xs k = ap (λ n. take n (drop k xs)) (sym (length-drop k xs)) ∙ take-length (drop k xs)

module _ (g : Grammar) (t : Table) (run : IsTableOf g t) (xs : List Inst) (same : xs ≡ t.instances) (number : ℕ) (x : Inst) (reads : (d : Inst) → x ≡ get_or xs number d) (instance : List ℕ) (e : Expanded) (at : position (bytes_eq instance) (names_in t.instances) ≡ Some number) (is : expanded_by (events_of t) instance ≡ Some e) where
  its : x ≡ get_or t.instances number no_instance
  its = reads no_instance ∙ ap (λ l. get_or l number no_instance) same

  stands : IsAt x number t.instances
  stands = subst (λ z. IsAt z number t.instances) (sym its) (is_at number t.instances no_instance (its_name g t run instance number at).0)

  -- it is expanded in the table as the events say
  expansion : expansion_at g (names_in t.instances) x ≡ Some e
  expansion = sym (run.expanded number x stands) ∙ (ap (expanded_by (events_of t)) (sym ((its_name g t run instance number at).1 ∙ ap (λ (z : Inst). z.name) (sym its))) ∙ is)

  -- so by a production
  pub its_production : (p : ProdNo) × (x.production ≡ Some p)
  its_production = go x.production refl
    where
      go : (o : Option ProdNo) → x.production ≡ o → (p : ProdNo) × (x.production ≡ Some p)
      go None q = absurd (none-some e (sym (ap (option_map (λ (p : ProdNo). record { production = p.0; names = take (length (body_of g p.0)) (drop x.first_child (names_in t.instances)) })) q) ∙ expansion))
      go (Some p) q = (p, q)

  module _ (p : ProdNo) (by : x.production ≡ Some p) where
    -- into as many instances, from its first child on
    its_children : e.names ≡ take (length (body_of g p.0)) (drop x.first_child (names_in t.instances))
    its_children = ap names_told (sym expansion ∙ ap (option_map (λ (p : ProdNo). record { production = p.0; names = take (length (body_of g p.0)) (drop x.first_child (names_in t.instances)) })) by)

    -- which are there
    pub are_there : x.first_child + length (body_of g p.0) ≤ length xs
    are_there = subst (λ z. x.first_child + length (body_of g p.0) ≤ length z) (sym same) (run.children number x p stands by)

    as_many : length e.names ≡ length (body_of g p.0)
    as_many = ap length its_children ∙ length-take-le (length (body_of g p.0)) (drop x.first_child (names_in t.instances)) long
      where
        long : length (body_of g p.0) ≤ length (drop x.first_child (names_in t.instances))
        long =
            let l = length-drop x.first_child (names_in t.instances) in
            let m : length (names_in t.instances) ≡ length t.instances = length-map t.instances (λ (z : Inst). z.name) in
            let c = run.children number x p stands by in
            omega (arith, l, m, c)

    -- names are theirs where there is one for each, and the instances from the first child on have them
    pub children_are : (rest : List Inst) → rest ≡ slice_range xs x.first_child (length xs) → (names : List (List ℕ)) → length names ≡ length (body_of g p.0) → pointwise bytes_eq (take (length names) (names_in rest)) names ≡ pointwise bytes_eq e.names names
    children_are rest from names each = ap (λ ns. pointwise bytes_eq ns names) (
        ap (λ n. take n (names_in rest)) each ∙
        (ap (take (length (body_of g p.0))) (ap names_in (from ∙ (to_end xs x.first_child ∙ ap (drop x.first_child) same)) ∙ sym (drop-map (λ (z : Inst). z.name) x.first_child t.instances)) ∙ sym its_children))

    -- and they are not where there are more or fewer
    pub more_or_fewer : (names : List (List ℕ)) → (length names ≡ length (body_of g p.0) → ⊥) → false ≡ pointwise bytes_eq e.names names
    more_or_fewer names other = sym (unequal bytes_eq e.names names (λ q. other (sym q ∙ as_many)))
