-- The lines of links, from the table.
use Rattle.std.proofs.Common.{◌≡◌, ℕ, zero, suc, ◌<◌, Bool, true, false, cond, List, [], ◌∷◌, ◌++◌, map, length, get_or, Option, refl, ap, sym, subst, ◌∙◌, arith, codes}
use Rattle.std.specs.Prelude.{flat_map, bytes_eq}
use Rattle.std.proofs.lemmas.List.Folds.{flat_map-map}
use Rattle.wf_model.specs.Lists.{IsIn, AllDiffer}
use Rattle.wf_model.specs.Grammar.{Grammar, module_at}
use Rattle.wf_model.specs.View.{View}
use Rattle.wf_model.specs.Run.{Instance, made}
use Rattle.wf_model.specs.Faults.{module_in}
use Rattle.wf_model.specs.Items.{dotted}
use Rattle.wf_model.proofs.Lists.{at_in, is_at, same_bytes, bytes_same}
use Rattle.wf_model.proofs.Mapping.{flat_map_same, at_map}
use Rattle.wf_flat.specs.declared.table.Inst.{Inst}
use Rattle.wf_flat.specs.declared.graph.Port.{Port as PortHeld}
use Rattle.wf_flat.specs.Table.{Table, IsTableOf, instance_of, names_in, events_of, no_instance}
use Rattle.wf_flat.specs.Graph.{named_port, named_link, links_at, links_among}
use Rattle.wf_flat.specs.Shown.{RunSeen}
use Rattle.wf_flat.proofs.SeenNumbers.{all_differ, name_at}
use Rattle.wf_export.proofs.ItemLines.{flat_map-flat_map}
use Rattle.wf_export.specs.ExportText.{ports_on, port_text, link_line, links_text}
use Rattle.wf_export.specs.Shown.{AreLinksSeen, held_port_text, held_link_line, seen_links_text}

-- where names differ, the first instance of a name is the one that has it
module_at_place : (xs : List Inst) (k : ℕ) → AllDiffer (names_in xs) → k < length xs → module_in (map instance_of xs) (get_or xs k no_instance).name ≡ (get_or xs k no_instance).module.0
module_at_place [] k d h = absurd (omega arith)
module_at_place (x ∷ xs) zero d h = ap (λ b. cond b x.module.0 (module_in (map instance_of xs) x.name)) (bytes_same x.name x.name refl)
module_at_place (x ∷ xs) (suc k) d h = let there : k < length xs = omega arith in go there (module_at_place xs k d.1 there) (bytes_eq (get_or xs k no_instance).name x.name) refl
  where
    name : List ℕ
    name = (get_or xs k no_instance).name

    far : k < length xs → name ≡ x.name → ⊥
    far there e = d.0 (subst (λ n. IsIn n (names_in xs)) e (at_in name k (names_in xs) (at_map (λ (y : Inst). y.name) (get_or xs k no_instance) k xs (is_at k xs no_instance there))))

    go : k < length xs → module_in (map instance_of xs) name ≡ (get_or xs k no_instance).module.0 → (b : Bool) → bytes_eq name x.name ≡ b → cond (bytes_eq name x.name) x.module.0 (module_in (map instance_of xs) name) ≡ (get_or xs k no_instance).module.0
    go there later true e = absurd (far there (same_bytes name x.name e))
    go there later false e = ap (λ b. cond b x.module.0 (module_in (map instance_of xs) name)) e ∙ later

module _ (g : Grammar) (t : Table) (run : IsTableOf g t) where
  port_told : (x : PortHeld) → x.instance < length t.instances → held_port_text g t.instances x ≡ port_text g (made g g.start (events_of t)) (named_port (names_in t.instances) x)
  port_told x h =
      let owner = get_or t.instances x.instance no_instance in
      let is = made g g.start (events_of t) in
      ap (λ m. dotted owner.name (get_or (ports_on (module_at g m) x.side) x.port.0 []))
      (sym (ap (λ (l : List Instance). module_in l owner.name) (sym run.made) ∙ module_at_place t.instances x.instance (all_differ g t run) h))
      ∙ ap (λ n. dotted n (get_or (ports_on (module_at g (module_in is n)) x.side) x.port.0 [])) (sym (name_at g t run x.instance h))

-- the lines of the links between what is seen
pub links_told : (g : Grammar) (u : View) (t : Table) (rows : List (Option (List ℕ))) (shown : RunSeen) → IsTableOf g t → AreLinksSeen g u t rows shown → seen_links_text g shown rows t.instances ≡ links_text g u (events_of t)
links_told g u t rows shown run seen =
    let is = made g g.start (events_of t) in
    let names = names_in t.instances in
    let ls = links_among g shown.marks rows t.instances shown.numbers in
    sym (flat_map-flat_map (held_link_line g t.instances) (links_at g shown.marks rows t.instances) shown.numbers)
    ∙ (flat_map_same _ _ ls (λ l i.
    let w = seen.within l i in
    ap (λ z. codes "link " ++ (z ++ (codes " " ++ (held_port_text g t.instances l.to ++ codes "\n")))) (port_told g t run l.from w.0)
    ∙ ap (λ z. codes "link " ++ (port_text g is (named_port names l.from) ++ (codes " " ++ (z ++ codes "\n")))) (port_told g t run l.to w.1))
    ∙ (sym (flat_map-map (link_line g is) (named_link names) ls)
    ∙ ap (flat_map (link_line g is)) seen.links))
