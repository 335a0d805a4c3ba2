-- What a look-up of the name of an instance tells.
use Rattle.std.proofs.Common.{◌≡◌, ℕ, ◌<◌, List, length, get_or, Option, Some, None, sym}
use Rattle.std.specs.Prelude.{position, bytes_eq, IfSome, IsNone}
use Rattle.wf_model.specs.Grammar.{Grammar}
use Rattle.wf_model.proofs.Lists.{is_at, at_in, bytes_same}
use Rattle.wf_model.proofs.Mapping.{at_map}
use Rattle.wf_flat.specs.declared.table.Inst.{Inst}
use Rattle.wf_flat.specs.Table.{Table, IsTableOf, names_in, no_instance}
use Rattle.wf_flat.specs.Graph.{inst_at}
use Rattle.wf_flat.proofs.Dots.{none_passes}
use Rattle.wf_flat.proofs.Instances.{its_name}

module _ (g : Grammar) (t : Table) (run : IsTableOf g t) (name : List ℕ) where
  pub found_there : (o : Option ℕ) → o ≡ position (bytes_eq name) (names_in t.instances) → IfSome o (λ k. k < length t.instances)
  found_there None e = tt
  found_there (Some k) e = (its_name g t run name k (sym e)).0

  pub found_instance : (o : Option ℕ) → o ≡ position (bytes_eq name) (names_in t.instances) → IfSome o (λ k. (inst_at t.instances k).name ≡ name)
  found_instance None e = tt
  found_instance (Some k) e = sym (its_name g t run name k (sym e)).1

  pub none_found : (o : Option ℕ) → o ≡ position (bytes_eq name) (names_in t.instances) → IsNone o → (k : ℕ) → k < length t.instances → (inst_at t.instances k).name ≡ name → ⊥
  none_found None e h k l q =
      let x = get_or t.instances k no_instance in
      none_passes (bytes_eq name) (names_in t.instances) (sym e) x.name (at_in x.name k (names_in t.instances) (at_map (λ (z : Inst). z.name) x k t.instances (is_at k t.instances no_instance l))) (bytes_same name x.name (sym q))
  none_found (Some j) e h k l q = absurd (cc)
