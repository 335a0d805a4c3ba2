-- The lines of instances, from the table.
use Rattle.std.proofs.Common.{◌≡◌, ℕ, ◌<◌, cond, List, [], take, drop, length, get_or, Option, None, Some, refl, ap, sym, ◌∙◌, codes}
use Rattle.std.specs.Prelude.{flat_map, is_some, option_map}
use Rattle.std.proofs.lemmas.List.{get_or_read}
use Rattle.std.proofs.lemmas.List.Folds.{flat_map-map}
use Rattle.wf_model.specs.Grammar.{Grammar, module_at, body_of}
use Rattle.wf_model.specs.View.{View, expands}
use Rattle.wf_model.specs.Run.{Expanded, expanded_by}
use Rattle.wf_model.specs.declared.numbers.ProdNo.{ProdNo}
use Rattle.wf_model.proofs.Lists.{is_at}
use Rattle.wf_model.proofs.Mapping.{flat_map_same}
use Rattle.wf_flat.specs.declared.table.Inst.{Inst}
use Rattle.wf_flat.specs.Table.{Table, IsTableOf, names_in, events_of, no_instance}
use Rattle.wf_flat.specs.Graph.{inst_at}
use Rattle.wf_flat.specs.Shown.{RunSeen}
use Rattle.wf_export.specs.ExportText.{named_line, instance_line, instances_text}
use Rattle.wf_export.specs.Shown.{IsRunSeen, held_instance_line}

-- the line of the instance of a number
abbrev pub numbered_line : Grammar → View → List Inst → ℕ → List ℕ
numbered_line g u xs k = held_instance_line g u (get_or xs k no_instance)

module _ (g : Grammar) (u : View) (t : Table) (run : IsTableOf g t) where
  -- an instance of the table has a production where the events expand it
  expanded_told : (k : ℕ) → k < length t.instances → is_some (get_or t.instances k no_instance).production ≡ is_some (expanded_by (events_of t) (get_or t.instances k no_instance).name)
  expanded_told k h = by (get_or t.instances k no_instance).production ∙ sym (ap is_some (run.expanded k (get_or t.instances k no_instance) (is_at k t.instances no_instance h)))
    where
      by : (p : Option ProdNo) → is_some p ≡ is_some (option_map {U = Expanded} (λ (r : ProdNo). record { production = r.0; names = take (length (body_of g r.0)) (drop (get_or t.instances k no_instance).first_child (names_in t.instances)) }) p)
      by None = refl
      by (Some p) = refl

  line_told : (k : ℕ) → k < length t.instances → numbered_line g u t.instances k ≡ instance_line g u (events_of t) (inst_at t.instances k)
  line_told k h =
      let x = get_or t.instances k no_instance in
      let name = (module_at g x.module.0).name in
      ap (λ b. cond (expands u x.module.0) (cond b [] (named_line (codes "pending ") x.name name)) (named_line (codes "leaf ") x.name name)) (expanded_told k h)

-- the lines of the instances that are seen
pub lines_told : (g : Grammar) (u : View) (t : Table) (shown : RunSeen) → IsRunSeen g u t shown → flat_map (numbered_line g u t.instances) shown.numbers ≡ instances_text g u (events_of t)
lines_told g u t shown seen =
    flat_map_same _ _ shown.numbers (λ k i. line_told g u t seen.run k (seen.there k i))
    ∙ (sym (flat_map-map (instance_line g u (events_of t)) (inst_at t.instances) shown.numbers)
    ∙ ap (flat_map (instance_line g u (events_of t))) seen.seen)

-- the instance of a number that was read from a list
pub read_told : (is xs : List Inst) (s ns : List ℕ) (i : ℕ) (x : Inst) → is ≡ xs → s ≡ ns → get_or s i 0 < length is → x ≡ get_or is (get_or s i 0) x → x ≡ get_or xs (get_or ns i 0) no_instance
read_told is xs s ns i x e d h r = get_or_read is (get_or s i 0) x h r no_instance ∙ (ap (λ (l : List Inst). get_or l (get_or s i 0) no_instance) e ∙ ap (λ (z : List ℕ). get_or xs (get_or z i 0) no_instance) d)
