-- The productions that are made from the wirings of parts are those of the parts.
use Rattle.std.proofs.Common.{◌≡◌, ℕ, zero, suc, ◌<◌, List, [], ◌∷◌, ◌++◌, map, length, get_or, refl, sym, ap, ◌∙◌, subst, inl, inr, arith}
use Rattle.std.proofs.lemmas.List.{length-map, get_or-map, ext_get_or, same_lists}
use Rattle.wf_model.specs.declared.parts.Parts.{Parts}
use Rattle.wf_model.specs.declared.parts.ProdPart.{ProdPart}
use Rattle.wf_model.specs.declared.parts.EntryPart.{EntryPart}
use Rattle.wf_model.specs.declared.parts.ExitPart.{ExitPart}
use Rattle.wf_model.specs.Lists.{IsIn, IsAt, AllDiffer}
use Rattle.wf_model.specs.Grammar.{Module, Inner, Production}
use Rattle.wf_model.proofs.Lists.{in_map, in_map_from, in_at, at_in, at_is, is_at, at_below, differ_at}
use Rattle.wf_form.specs.declared.wiring.Wiring.{Wiring}
use Rattle.wf_form.specs.Assembling.{origin, exit_at, AreByPort, IsSound, IsRuleOf, AreRulesOf}
use Rattle.wf_spec.specs.Naming.{place_of, names_of, module_in}
use Rattle.wf_form.specs.Forming.{module_of, modules_of, body_in, head_in, inner_input, inner_output, production_in}
use Rattle.wf_form.specs.Wiring.{entry_of, exit_of, entry_link, exit_link, IsWiringOf, AreWiringsOf, entered_by, left_by, head_of}
use Rattle.wf_spec.proofs.Finding.{place_within, number_below, at_place, same_name}
use Rattle.wf_form.proofs.Fitting.{made_production}
use Rattle.wf_form.specs.Rules.{AreKept}
use Rattle.wf_form.proofs.Kept.{IsKeptPart, AreAllKept, kept_gives}
use Rattle.wf_form.proofs.Lawful.{same_names, head_ports}
use Rattle.wf_form.proofs.Picking.{pick}
use Rattle.wf_spec.proofs.Tables.{get_in}
use Rattle.std.proofs.lemmas.Simd.{map-map}
use Rattle.wf_model.proofs.Mapping.{at_map}
use Rattle.wf_model.proofs.Positions.{at_there}
use Rattle.wf_model.proofs.ItemNames.{differ_right, differ_left}

at_map_from : {A B : Type 0} (f : A → B) (y : B) (k : ℕ) (xs : List A) → IsAt y k (map f xs) → (x : A) × IsAt x k xs × (y ≡ f x)
at_map_from f y k [] h = absurd h
at_map_from f y zero (x ∷ xs) h = (x, refl, h)
at_map_from f y (suc k) (x ∷ xs) h = at_map_from f y k xs h

-- ends by port are the values that the names of the ports pick
by_port_pick : {A : Type 0} (port : A → List ℕ) (value : A → Inner) (es : List A) (ports : List (List ℕ)) (d : Inner) (ends : List Inner) → AllDiffer ports
    → ((n : List ℕ) → IsIn n ports → IsIn n (map port es)) → AreByPort (length ports) (map (λ e. (place_of ports (port e), value e)) es) ends → ends ≡ map (pick (map port es) (map value es) d) ports
by_port_pick {A} port value es ports d ends differ all by =
    ext_get_or origin ends (map (pick (map port es) (map value es) d) ports) (by.one_each ∙ sym (length-map ports (pick (map port es) (map value es) d))) at
  where
    at : (i : ℕ) → i < length ends → get_or ends i origin ≡ get_or (map (pick (map port es) (map value es) d) ports) i origin
    at i h =
        let inside : i < length ports = (let e = by.one_each in omega arith) in
        let n = get_or ports i [] in
        let here : IsIn n ports = get_in i ports [] inside in
        let j = place_of (map port es) n in
        let r = at_map_from port n j es (at_place (map port es) n (all n here)) in
        let same : place_of ports (port r.0) ≡ i = ap (place_of ports) (sym r.2) ∙ differ_at n (place_of ports n) i ports differ (at_place ports n here) (is_at i ports [] inside) in
        ap (λ k. get_or ends k origin) (sym same)
        ∙ (by.each (place_of ports (port r.0), value r.0) (in_map (λ e. (place_of ports (port e), value e)) r.0 es (at_in r.0 j es r.1))
        ∙ (sym (at_is (value r.0) j (map value es) d (at_map value r.0 j es r.1)) ∙ sym (get_or-map (pick (map port es) (map value es) d) ports i [] origin inside)))

-- the links of a wiring, by their numbers
entry_ports : (modules : List Module) (p : ProdPart) (w : Wiring) → IsWiringOf modules p w → entered_by w ≡ map (λ (e : EntryPart). place_of (head_in modules p).inputs e.port) p.entries
entry_ports modules p w is =
    sym (map-map (λ (l : ℕ × Inner). l.0) entry_of w.entries.items)
    ∙ (ap (map (λ (l : ℕ × Inner). l.0)) is.entries ∙ map-map (λ (l : ℕ × Inner). l.0) (entry_link modules (body_in modules p) (head_in modules p)) p.entries)

exit_ports : (modules : List Module) (p : ProdPart) (w : Wiring) → IsWiringOf modules p w → left_by w ≡ map (λ (e : ExitPart). place_of (head_in modules p).outputs e.port) p.exits
exit_ports modules p w is =
    sym (map-map (λ (l : Inner × ℕ). l.1) exit_of w.exits.items)
    ∙ (ap (map (λ (l : Inner × ℕ). l.1)) is.exits ∙ map-map (λ (l : Inner × ℕ). l.1) (exit_link modules (body_in modules p) (head_in modules p)) p.exits)

exit_links : (modules : List Module) (p : ProdPart) (w : Wiring) → IsWiringOf modules p w
    → map exit_at w.exits.items ≡ map (λ (e : ExitPart). (place_of (head_in modules p).outputs e.port, inner_output modules (body_in modules p) e.from)) p.exits
exit_links modules p w is =
    sym (map-map turned exit_of w.exits.items) ∙ (ap (map turned) is.exits ∙ map-map turned (exit_link modules (body_in modules p) (head_in modules p)) p.exits)
  where
    turned : Inner × ℕ → ℕ × Inner
    turned l = (l.1, l.0)

pub same_head : (modules : List Module) (p : ProdPart) (w : Wiring) → IsWiringOf modules p w → head_of modules w ≡ head_in modules p
same_head modules p w is = ap (module_in modules) is.head

-- numbers of names that differ differ
differ_numbers : {A : Type 0} (f : A → List ℕ) (names : List (List ℕ)) (xs : List A) → ((x : A) → IsIn x xs → IsIn (f x) names) → AllDiffer (map f xs) → AllDiffer (map (λ x. place_of names (f x)) xs)
differ_numbers f names [] known d = tt
differ_numbers f names (x ∷ xs) known d = (
  λ h.
      let r = in_map_from (λ y. place_of names (f y)) (place_of names (f x)) xs h in
      d.0 (subst (λ n. IsIn n (map f xs)) (sym (same_name names (f x) (f r.0) (known x (inl refl)) (known r.0 (inr r.1)) r.2)) (in_map f r.0 xs r.1)),
  differ_numbers f names xs (λ y i. known y (inr i)) d.1,
)

-- the wiring of a part that keeps the rules is sound
part_sound : (parts : Parts) (p : ProdPart) (w : Wiring) → IsKeptPart parts p → place_of (names_of (modules_of parts)) p.head < length (modules_of parts) → IsWiringOf (modules_of parts) p w → IsSound (modules_of parts) w
part_sound parts p w k below is = record {
  head = subst (λ n. n < length modules) (sym is.head) below;
  entries_within = λ n h. (let r = in_map_from (λ (e : EntryPart). place_of (head_in modules p).inputs e.port) n p.entries (subst (IsIn n) (entry_ports modules p w is) h) in
      subst (λ (m : Module). n < length m.inputs) (sym (same_head modules p w is))
      (subst (λ l. l < length (head_in modules p).inputs) (sym r.2) (place_within (head_in modules p).inputs r.0.port (k.known_ports.entries_from r.0 r.1))));
  entries_differ = subst AllDiffer (sym (entry_ports modules p w is))
      (differ_numbers (λ (e : EntryPart). e.port) (head_in modules p).inputs p.entries k.known_ports.entries_from k.at_most_once.head_inputs);
  exits_within = λ n h. (let r = in_map_from (λ (e : ExitPart). place_of (head_in modules p).outputs e.port) n p.exits (subst (IsIn n) (exit_ports modules p w is) h) in
      subst (λ (m : Module). n < length m.outputs) (sym (same_head modules p w is))
      (subst (λ l. l < length (head_in modules p).outputs) (sym r.2) (place_within (head_in modules p).outputs r.0.port (k.known_ports.exits_to r.0 r.1))));
  exits_differ = subst AllDiffer (sym (exit_ports modules p w is))
      (differ_numbers (λ (e : ExitPart). e.port) (head_in modules p).outputs p.exits k.known_ports.exits_to k.at_most_once.head_outputs);
}
  where
    modules : List Module
    modules = modules_of parts

-- the production that is made from it is that of the part
rule_is : (parts : Parts) (p : ProdPart) (w : Wiring) (r : Production) → IsKeptPart parts p → AllDiffer (head_in (modules_of parts) p).inputs → AllDiffer (head_in (modules_of parts) p).outputs
    → IsWiringOf (modules_of parts) p w → IsRuleOf (modules_of parts) w r → r ≡ production_in (modules_of parts) p
rule_is parts p w r k ins outs is made =
    made_production modules p r (body_in modules p) (head_in modules p) refl refl (made.head ∙ is.head) (made.positions ∙ is.positions) (made.edges ∙ is.edges)
    (by_port_pick (λ (e : EntryPart). e.port) (λ (e : EntryPart). inner_input modules (body_in modules p) e.to) p.entries (head_in modules p).inputs
    (record { position = length (body_in modules p); port = 0 }) r.entries ins k.at_least_once.head_inputs
    (subst (λ ls. AreByPort (length (head_in modules p).inputs) ls r.entries) is.entries
    (subst (λ (m : Module). AreByPort (length m.inputs) (map entry_of w.entries.items) r.entries) (same_head modules p w is) made.entries)))
    (by_port_pick (λ (e : ExitPart). e.port) (λ (e : ExitPart). inner_output modules (body_in modules p) e.from) p.exits (head_in modules p).outputs
    (record { position = length (body_in modules p); port = 0 }) r.exits outs k.at_least_once.head_outputs
    (subst (λ ls. AreByPort (length (head_in modules p).outputs) ls r.exits) (exit_links modules p w is)
    (subst (λ (m : Module). AreByPort (length m.outputs) (map exit_at w.exits.items) r.exits) (same_head modules p w is) made.exits)))
  where
    modules : List Module
    modules = modules_of parts

-- the head of a kept part is a module, and its ports differ
part_head : (parts : Parts) (p : ProdPart) → AreAllKept parts → IsIn p parts.productions
    → (place_of (names_of (modules_of parts)) p.head < length (modules_of parts)) × AllDiffer (head_in (modules_of parts) p).inputs × AllDiffer (head_in (modules_of parts) p).outputs
part_head parts p k here =
    let below = number_below (modules_of parts) p.head (subst (IsIn p.head) (sym (same_names parts)) (k.productions p here).known_modules.head) in
    let differ = head_ports (modules_of parts) p
    (λ m h. (let r = in_map_from module_of m parts.modules h in subst (λ (n : Module). AllDiffer (n.inputs ++ n.outputs)) (sym r.2) (k.different_ports r.0 r.1))) below in
    (below, differ_left (head_in (modules_of parts) p).inputs (head_in (modules_of parts) p).outputs differ, differ_right (head_in (modules_of parts) p).inputs (head_in (modules_of parts) p).outputs differ)

-- the wirings of kept parts are sound
pub wirings_sound : (parts : Parts) (modules : List Module) (ws : List Wiring) → modules ≡ modules_of parts → AreAllKept parts → AreWiringsOf modules parts.productions ws → (w : Wiring) → IsIn w ws → IsSound modules w
wirings_sound parts modules ws are k of w here =
    subst (λ ms. IsSound ms w) (sym are)
    (let a = in_at w ws here in
    let p = at_there a.0 parts.productions (let l = at_below w a.0 ws a.1 in let n = of.as_many in omega arith) in
    let there = at_in p.0 a.0 parts.productions p.1 in
    part_sound parts p.0 w (k.productions p.0 there) (part_head parts p.0 k there).0 (subst (λ ms. IsWiringOf ms p.0 w) are (of.each a.0 p.0 w p.1 a.1)))

-- their productions are those of the parts
rules_are : (parts : Parts) (modules : List Module) (ws : List Wiring) (rules : List Production) → modules ≡ modules_of parts → AreAllKept parts → AreWiringsOf modules parts.productions ws
    → AreRulesOf modules ws rules → rules ≡ map (production_in (modules_of parts)) parts.productions
rules_are parts modules ws rules are k of made =
    same_lists rules (map (production_in (modules_of parts)) parts.productions)
    (made.as_many ∙ (of.as_many ∙ sym (length-map parts.productions (production_in (modules_of parts)))))
    (λ n d inside.
    let r = at_there n rules inside in
    let w = at_there n ws (let l = made.as_many in omega arith) in
    let p = at_there n parts.productions (let l = made.as_many in let m = of.as_many in omega arith) in
    let there = at_in p.0 n parts.productions p.1 in
    let head = part_head parts p.0 k there in
    at_is r.0 n rules d r.1
    ∙ (rule_is parts p.0 w.0 r.0 (k.productions p.0 there) head.1 head.2 (subst (λ ms. IsWiringOf ms p.0 w.0) are (of.each n p.0 w.0 p.1 w.1))
    (subst (λ ms. IsRuleOf ms w.0 r.0) are (made.each n w.0 r.0 w.1 r.1))
    ∙ sym (at_is (production_in (modules_of parts) p.0) n (map (production_in (modules_of parts)) parts.productions) d (at_map (production_in (modules_of parts)) p.0 n parts.productions p.1))))

-- as they are read
pub rules_read : (parts : Parts) (modules ms : List Module) (ws : List Wiring) (rules read : List Production) → AreKept parts → modules ≡ modules_of parts → AreWiringsOf modules parts.productions ws
    → ms ≡ modules → AreRulesOf ms ws rules → read ≡ rules → read ≡ map (production_in modules) parts.productions
rules_read parts modules ms ws rules read kept are of same made is =
    is ∙ (rules_are parts modules ws rules are (kept_gives parts kept) of (subst (λ l. AreRulesOf l ws rules) same made) ∙ ap (λ l. map (production_in l) parts.productions) (sym are))
