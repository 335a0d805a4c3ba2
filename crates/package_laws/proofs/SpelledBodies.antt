-- The productions of a well-formed grammar, as they are spelled.
use Rattle.std.proofs.Common.{◌≡◌, ℕ, ◌<◌, true, List, [], ◌∷◌, ◌++◌, length, get_or, Option, Some, option_map, option_and_then, refl, sym, ap, ap₂, ◌∙◌, subst, codes}
use Rattle.std.specs.Prelude.{map}
use Rattle.wf_model.specs.declared.parts.ProdPart.{ProdPart}
use Rattle.wf_model.specs.declared.parts.PosPart.{PosPart}
use Rattle.wf_model.specs.declared.parts.PortPart.{PortPart}
use Rattle.wf_model.specs.declared.parts.EdgePart.{EdgePart}
use Rattle.wf_model.specs.declared.parts.EntryPart.{EntryPart}
use Rattle.wf_model.specs.declared.parts.ExitPart.{ExitPart}
use Rattle.wf_model.specs.Lists.{IsIn, IsAt}
use Rattle.wf_model.specs.Run.{IsName}
use Rattle.wf_model.specs.Grammar.{Grammar, Position, Inner, Edge, Production, module_at, production_at, inputs_of, outputs_of, body_of}
use Rattle.wf_model.specs.WellFormed.{IsWellFormed, IsInnerInput, IsInnerOutput}
use Rattle.wf_model.proofs.Lists.{in_map, in_append_left, in_append_right}
use Rattle.wf_spec.proofs.Tables.{get_in}
use Rattle.wf_json.specs.Canonical.{position_at, entries_of, exits_of}
use Rattle.wf_json.specs.Writing.{input_name, output_name}
use Rattle.wf_json.specs.Forms.{both, items_form, port_form}
use Rattle.wf_json.specs.SpecForm.{position_form, edge_form, entry_form, exit_form, production_form}
use Rattle.serde_json.specs.Data.{string}
use Rattle.wf_events.specs.Plain.{is_plain_text}
use Rattle.wf_view.proofs.Naming.{module_formed}
use Rattle.package_laws.proofs.ByElement.{in_zip}
use Rattle.package_laws.proofs.NamedParts.{named_position, named_input, named_output, named_edge, named_entry, named_exit, named_production}
use Rattle.package_laws.proofs.EndsBack.{inside, module_is, below_modules}
use Rattle.package_laws.proofs.GrammarBack.{of_productions}
use Rattle.package_laws.proofs.PlainNames.{name_plain, dotted_plain, dotted_said}
use Rattle.package_laws.proofs.Spellings.{Spelling, IsSpelling, text_spelling, text_spelled}
use Rattle.package_laws.proofs.SpelledLists.{list_spelling, list_spelled, items_read, items_said}
use Rattle.package_laws.proofs.SpelledObjects.{Field, object_spelling, object_spelled}
use Rattle.package_laws.proofs.SpelledModules.{two_texts, two_spelled, module_name_plain}

-- positions, edges, entries and exits, as lists of two texts
abbrev pub position_spelling : Grammar → Position → Spelling
position_spelling g q = two_texts q.name (module_at g q.module_no).name

abbrev pub edge_spelling : Grammar → Production → Edge → Spelling
edge_spelling g r e = two_texts (output_name g r e.from) (input_name g r e.to)

abbrev pub entry_spelling : Grammar → Production → List ℕ × Inner → Spelling
entry_spelling g r e = two_texts e.0 (input_name g r e.1)

abbrev pub exit_spelling : Grammar → Production → List ℕ × Inner → Spelling
exit_spelling g r e = two_texts (output_name g r e.1) e.0

-- a production, by its members
abbrev production_members : Grammar → Production → List Field
production_members g r =
    record { key = codes "head"; value = text_spelling (module_at g r.head).name } ∷
    record { key = codes "body"; value = list_spelling (position_spelling g) r.positions } ∷
    record { key = codes "edges"; value = list_spelling (edge_spelling g r) r.edges } ∷
    record { key = codes "in"; value = list_spelling (entry_spelling g r) (entries_of g r) } ∷
    record { key = codes "out"; value = list_spelling (exit_spelling g r) (exits_of g r) } ∷ []

abbrev pub production_spelling : Grammar → Production → Spelling
production_spelling g r = object_spelling (production_members g r)

module _ (g : Grammar) (formed : IsWellFormed g) where
  module _ (p : ℕ) (within : p < length g.productions) where
    abbrev r : Production
    r = production_at g p

    position_spelled : (q : Position) → IsIn q r.positions → IsSpelling 1 (position_spelling g q)
    position_spelled q i =
        two_spelled 0 q.name (module_at g q.module_no).name (name_plain q.name ((formed.bodies p within).names q i).0)
        (module_name_plain g formed q.module_no ((formed.bodies p within).modules q.module_no (in_map (λ (z : Position). z.module_no) q r.positions i)))

    -- the ends of edges have plain names, and are told by them
    module _ (i : Inner) where
      abbrev own : List ℕ
      own = (position_at r i.position).name

      abbrev m : ℕ
      m = (position_at r i.position).module_no

      abbrev input : List ℕ
      input = get_or (module_at g m).inputs i.port []

      abbrev output : List ℕ
      output = get_or (module_at g m).outputs i.port []

      own_name : (n : ℕ) → IsAt n i.position (body_of g p) → IsName own
      own_name n at = ((formed.bodies p within).names (position_at r i.position) (get_in i.position r.positions _ (inside g formed p within i.position n at))).0

      port_name : (n : ℕ) → IsAt n i.position (body_of g p) → (name : List ℕ) → IsIn name ((module_at g m).inputs ++ (module_at g m).outputs) → IsName name
      port_name n at name j = ((module_formed g formed m (below_modules g formed p within i.position n at)).ports name j).0

      input_name_good : IsInnerInput g p i → IsName input
      input_name_good h =
          let there = subst (λ z. i.port < inputs_of g z) (sym (module_is g formed p within i.position h.0 h.1)) h.2 in
          port_name h.0 h.1 input (in_append_left input (module_at g m).inputs (module_at g m).outputs (get_in i.port (module_at g m).inputs [] there))

      output_name_good : IsInnerOutput g p i → IsName output
      output_name_good h =
          let there = subst (λ z. i.port < outputs_of g z) (sym (module_is g formed p within i.position h.0 h.1)) h.2 in
          port_name h.0 h.1 output (in_append_right output (module_at g m).inputs (module_at g m).outputs (get_in i.port (module_at g m).outputs [] there))

      input_plain : IsInnerInput g p i → is_plain_text (input_name g r i) ≡ true
      input_plain h = dotted_plain own input (own_name h.0 h.1) (input_name_good h)

      output_plain : IsInnerOutput g p i → is_plain_text (output_name g r i) ≡ true
      output_plain h = dotted_plain own output (own_name h.0 h.1) (output_name_good h)

      input_said : IsInnerInput g p i → port_form (string (input_name g r i)) ≡ Some (named_input g r i)
      input_said h = dotted_said own input (own_name h.0 h.1)

      output_said : IsInnerOutput g p i → port_form (string (output_name g r i)) ≡ Some (named_output g r i)
      output_said h = dotted_said own output (own_name h.0 h.1)

    edge_spelled : (e : Edge) → IsIn e r.edges → IsSpelling 1 (edge_spelling g r e)
    edge_spelled e i =
        two_spelled 0 (output_name g r e.from) (input_name g r e.to)
        (output_plain e.from ((formed.bodies p within).edges_from e i)) (input_plain e.to ((formed.bodies p within).edges_to e i))

    edge_said : (e : Edge) → IsIn e r.edges → edge_form (edge_spelling g r e).read ≡ Some (named_edge g r e)
    edge_said e i =
        ap₂ (λ (a b : Option PortPart). option_map (λ q. record { from = q.0; to = q.1 }) (both a b))
        (output_said e.from ((formed.bodies p within).edges_from e i)) (input_said e.to ((formed.bodies p within).edges_to e i))

    head_name : (n : List ℕ) → IsIn n ((module_at g r.head).inputs ++ (module_at g r.head).outputs) → is_plain_text n ≡ true
    head_name n i = name_plain n ((module_formed g formed r.head (formed.heads p within)).ports n i).0

    entry_spelled : (e : List ℕ × Inner) → IsIn e (entries_of g r) → IsSpelling 1 (entry_spelling g r e)
    entry_spelled e i =
        let head = module_at g r.head in
        let z = in_zip head.inputs r.entries e i in
        two_spelled 0 e.0 (input_name g r e.1) (head_name e.0 (in_append_left e.0 head.inputs head.outputs z.0)) (input_plain e.1 ((formed.bodies p within).entries_to e.1 z.1))

    entry_said : (e : List ℕ × Inner) → IsIn e (entries_of g r) → entry_form (entry_spelling g r e).read ≡ Some (named_entry g r e)
    entry_said e i =
        let z = in_zip (module_at g r.head).inputs r.entries e i in
        ap (λ (b : Option PortPart). option_map (λ q. record { port = q.0; to = q.1 }) (both (Some e.0) b)) (input_said e.1 ((formed.bodies p within).entries_to e.1 z.1))

    exit_spelled : (e : List ℕ × Inner) → IsIn e (exits_of g r) → IsSpelling 1 (exit_spelling g r e)
    exit_spelled e i =
        let head = module_at g r.head in
        let z = in_zip head.outputs r.exits e i in
        two_spelled 0 (output_name g r e.1) e.0 (output_plain e.1 ((formed.bodies p within).exits_from e.1 z.1)) (head_name e.0 (in_append_right e.0 head.inputs head.outputs z.0))

    exit_said : (e : List ℕ × Inner) → IsIn e (exits_of g r) → exit_form (exit_spelling g r e).read ≡ Some (named_exit g r e)
    exit_said e i =
        let z = in_zip (module_at g r.head).outputs r.exits e i in
        ap (λ (b : Option PortPart). option_map (λ q. record { from = q.0; port = q.1 }) (both b (Some e.0))) (output_said e.1 ((formed.bodies p within).exits_from e.1 z.1))

    spelled_at : IsSpelling 3 (production_spelling g r)
    spelled_at =
        let head = text_spelled 2 (module_at g r.head).name (module_name_plain g formed r.head (formed.heads p within)) in
        let body = list_spelled (position_spelling g) 1 r.positions position_spelled in
        let edges = list_spelled (edge_spelling g r) 1 r.edges edge_spelled in
        let entries = list_spelled (entry_spelling g r) 1 (entries_of g r) entry_spelled in
        let exits = list_spelled (exit_spelling g r) 1 (exits_of g r) exit_spelled in
        object_spelled 2 (production_members g r) (refl, head, (refl, body, (refl, edges, (refl, entries, (refl, exits, tt)))))

    abbrev of_body : Option (List PosPart) → Option (List EdgePart) → Option (List EntryPart) → Option (List ExitPart) → Option ProdPart
    of_body b e i o =
        option_and_then (λ bs. option_and_then (λ es. option_and_then (λ is. option_map (λ os.
        record { head = (module_at g r.head).name; body = bs; edges = es; entries = is; exits = os }) o) i) e) b

    said_at : production_form (production_spelling g r).read ≡ Some (named_production g r)
    said_at =
        let entries = items_form entry_form (items_read (map (entry_spelling g r) (entries_of g r))) in
        let exits = items_form exit_form (items_read (map (exit_spelling g r) (exits_of g r))) in
        ap₂ (λ (b : Option (List PosPart)) (e : Option (List EdgePart)). of_body b e entries exits)
        (items_said (position_spelling g) position_form (named_position g) r.positions (λ q i. refl))
        (items_said (edge_spelling g r) edge_form (named_edge g r) r.edges edge_said)
        ∙ ap₂ (of_body (Some (map (named_position g) r.positions)) (Some (map (named_edge g r) r.edges)))
        (items_said (entry_spelling g r) entry_form (named_entry g r) (entries_of g r) entry_said)
        (items_said (exit_spelling g r) exit_form (named_exit g r) (exits_of g r) exit_said)

  -- a production of the grammar
  pub production_spelled : (r : Production) → IsIn r g.productions → IsSpelling 3 (production_spelling g r)
  production_spelled = of_productions g formed (λ r. IsSpelling 3 (production_spelling g r)) spelled_at

  -- it says the part that describes the production
  pub production_said : (r : Production) → IsIn r g.productions → production_form (production_spelling g r).read ≡ Some (named_production g r)
  production_said = of_productions g formed (λ r. production_form (production_spelling g r).read ≡ Some (named_production g r)) said_at
