-- The productions of a well-formed grammar, described by names and formed again.
use Rattle.std.proofs.Common.{◌≡◌, ℕ, ◌<◌, List, length, get_or, map, refl, sym, ap, ap₂, ◌∙◌, subst}
use Rattle.wf_model.specs.declared.parts.EntryPart.{EntryPart}
use Rattle.wf_model.specs.declared.parts.ExitPart.{ExitPart}
use Rattle.wf_model.specs.Lists.{IsIn}
use Rattle.wf_model.specs.Grammar.{Grammar, Module, Position, Inner, Edge, Production, module_at, production_at}
use Rattle.wf_model.specs.WellFormed.{IsWellFormed, IsWellFormedModule}
use Rattle.wf_model.proofs.ItemNames.{differ_left, differ_right}
use Rattle.wf_model.proofs.Lists.{in_map}
use Rattle.wf_spec.specs.Naming.{place_of, names_of, module_in}
use Rattle.wf_json.specs.Canonical.{entries_of, exits_of}
use Rattle.wf_form.specs.Forming.{placed, inner_input, inner_output, edge_in, entry_in, exit_in, body_in, head_in, production_in, NamesEach, HasItsLinks}
use Rattle.wf_view.proofs.Naming.{number_is, module_formed}
use Rattle.package_laws.proofs.NamedParts.{named_position, named_edge, named_entry, named_exit, named_production}
use Rattle.package_laws.proofs.ByElement.{map_back, seconds_back, firsts_back, by_place}
use Rattle.package_laws.proofs.EndsBack.{input_back, output_back}

names_each : (ports names all : List (List ℕ)) → all ≡ ports → all ≡ names → NamesEach ports names
names_each ports names all e q =
    let same : ports ≡ names = sym e ∙ q in
    record { as_many = ap length (sym same); each = λ n i. subst (IsIn n) same i }

module _ (g : Grammar) (formed : IsWellFormed g) (p : ℕ) (within : p < length g.productions) where
  abbrev r : Production
  r = production_at g p

  abbrev head_inputs : List (List ℕ)
  head_inputs = (module_at g r.head).inputs

  abbrev head_outputs : List (List ℕ)
  head_outputs = (module_at g r.head).outputs

  abbrev past_body : Inner
  past_body = record { position = length r.positions; port = 0 }

  head_formed : IsWellFormedModule (module_at g r.head)
  head_formed = module_formed g formed r.head (formed.heads p within)

  head_is : place_of (names_of g.modules) (module_at g r.head).name ≡ r.head
  head_is = number_is g formed r.head (formed.heads p within)

  position_back : (q : Position) → IsIn q r.positions → placed (names_of g.modules) (named_position g q) ≡ q
  position_back q i =
      let below = (formed.bodies p within).modules q.module_no (in_map (λ (z : Position). z.module_no) q r.positions i) in
      ap (λ k. record { name = q.name; module_no = k }) (number_is g formed q.module_no below)

  body_back : body_in g.modules (named_production g r) ≡ r.positions
  body_back = map_back (placed (names_of g.modules)) (named_position g) r.positions position_back

  edge_back : (e : Edge) → IsIn e r.edges → edge_in g.modules r.positions (named_edge g r e) ≡ e
  edge_back e i =
      ap₂ (λ (a b : Inner). record { from = a; to = b })
      (output_back g formed p within e.from ((formed.bodies p within).edges_from e i)) (input_back g formed p within e.to ((formed.bodies p within).edges_to e i))

  edges_back : map (edge_in g.modules r.positions) (map (named_edge g r) r.edges) ≡ r.edges
  edges_back = map_back (edge_in g.modules r.positions) (named_edge g r) r.edges edge_back

  entries_named : map (λ (e : EntryPart). e.port) (map (named_entry g r) (entries_of g r)) ≡ head_inputs
  entries_named = firsts_back (λ (e : EntryPart). e.port) (named_entry g r) head_inputs r.entries (formed.bodies p within).one_entry_each (λ n i. refl)

  exits_named : map (λ (e : ExitPart). e.port) (map (named_exit g r) (exits_of g r)) ≡ head_outputs
  exits_named = firsts_back (λ (e : ExitPart). e.port) (named_exit g r) head_outputs r.exits (formed.bodies p within).one_exit_each (λ n i. refl)

  entries_back : map (entry_in g.modules r.positions (map (named_entry g r) (entries_of g r))) head_inputs ≡ r.entries
  entries_back =
      let ends = seconds_back (λ (e : EntryPart). inner_input g.modules r.positions e.to) (named_entry g r) head_inputs r.entries (formed.bodies p within).one_entry_each
      (λ n i j. input_back g formed p within i ((formed.bodies p within).entries_to i j)) in
      ap₂ (λ (xs : List Inner) (ks : List (List ℕ)). map (λ n. get_or xs (place_of ks n) past_body) head_inputs) ends entries_named
      ∙ by_place head_inputs r.entries past_body (differ_left head_inputs head_outputs head_formed.ports_differ) (formed.bodies p within).one_entry_each

  exits_back : map (exit_in g.modules r.positions (map (named_exit g r) (exits_of g r))) head_outputs ≡ r.exits
  exits_back =
      let ends = seconds_back (λ (e : ExitPart). inner_output g.modules r.positions e.from) (named_exit g r) head_outputs r.exits (formed.bodies p within).one_exit_each
      (λ n i j. output_back g formed p within i ((formed.bodies p within).exits_from i j)) in
      ap₂ (λ (xs : List Inner) (ks : List (List ℕ)). map (λ n. get_or xs (place_of ks n) past_body) head_outputs) ends exits_named
      ∙ by_place head_outputs r.exits past_body (differ_right head_inputs head_outputs head_formed.ports_differ) (formed.bodies p within).one_exit_each

  -- a production of this head, with this body
  abbrev made : ℕ → List Position → Production
  made h body =
      record {
        head = h;
        positions = body;
        edges = map (edge_in g.modules body) (map (named_edge g r) r.edges);
        entries = map (entry_in g.modules body (map (named_entry g r) (entries_of g r))) (module_in g.modules h).inputs;
        exits = map (exit_in g.modules body (map (named_exit g r) (exits_of g r))) (module_in g.modules h).outputs;
      }

  abbrev with_links : List Edge → List Inner → List Inner → Production
  with_links edges entries exits = record { head = r.head; positions = r.positions; edges = edges; entries = entries; exits = exits }

  pub production_back : production_in g.modules (named_production g r) ≡ r
  production_back =
      let own = made r.head r.positions in
      ap₂ made head_is body_back ∙ (ap (λ es. with_links es own.entries own.exits) edges_back ∙ ap₂ (with_links r.edges) entries_back exits_back)

  -- its head has its links
  pub links_back : HasItsLinks g.modules (named_production g r)
  links_back =
      let head : head_in g.modules (named_production g r) ≡ module_at g r.head = ap (module_in g.modules) head_is in
      record {
        entries = names_each _ _ head_inputs (sym (ap (λ (m : Module). m.inputs) head)) (sym entries_named);
        exits = names_each _ _ head_outputs (sym (ap (λ (m : Module). m.outputs) head)) (sym exits_named);
      }
