-- Whether a path of the links of a run leads from port to port, told as an answer.
use Rattle.std.proofs.Common.{◌≡◌, ℕ, ◌<◌, Bool, true, false, List, length, Option, Some, option_map, refl, sym, ◌∙◌, subst, inl, inr, true≢false}
use Rattle.std.specs.Prelude.{◌↔◌, IsTrue, IfSome}
use Rattle.std.proofs.lemmas.List.{length-map}
use Rattle.wf_model.specs.Lists.{AllDiffer}
use Rattle.wf_model.specs.Grammar.{Grammar}
use Rattle.wf_model.specs.Links.{Port, Path}
use Rattle.wf_flat.specs.declared.table.Inst.{Inst}
use Rattle.wf_flat.specs.declared.graph.Port.{Port as PortHeld}
use Rattle.wf_flat.specs.Table.{Table, IsTableOf, names_in}
use Rattle.wf_flat.specs.Graph.{named_port, named_links}
use Rattle.wf_flat.specs.declared.graph.Link.{Link as LinkHeld}
use Rattle.wf_flat.specs.Flat.{AreWithin}
use Rattle.wf_flat.proofs.SeenNumbers.{all_differ}
use Rattle.wf_query.specs.declared.answers.Answer.TheVariants.{Yes, No}
use Rattle.cmd_ask.specs.Prepared.{PathIn, TellsPath}

module _ (g : Grammar) (t : Table) (run : IsTableOf g t) (ls : List LinkHeld) (within : AreWithin (length t.instances) ls) (x y : Option PortHeld) (from to : PortHeld) (first : x ≡ Some from) (second : y ≡ Some to)
    (x_within : IfSome x (λ z. z.instance < length t.instances)) (y_within : IfSome y (λ z. z.instance < length t.instances)) (b : Bool)
    (by_name : (names : List (List ℕ)) → AllDiffer names → AreWithin (length names) ls → from.instance < length names → to.instance < length names → IsTrue b ↔ Path (named_links names ls) (named_port names from) (named_port names to)) where
  abbrev port_of : Option PortHeld → Option (Port (List ℕ))
  port_of z = option_map (named_port (names_in t.instances)) z

  joins : IsTrue b ↔ PathIn (named_links (names_in t.instances) ls) (port_of x) (port_of y)
  joins =
      let named = named_links (names_in t.instances) ls in
      let c : length t.instances ≡ length (names_in t.instances) = sym (length-map t.instances (λ (z : Inst). z.name)) in
      let fx : from.instance < length t.instances = subst (λ (o : Option PortHeld). IfSome o (λ z. z.instance < length t.instances)) first x_within in
      let fy : to.instance < length t.instances = subst (λ (o : Option PortHeld). IfSome o (λ z. z.instance < length t.instances)) second y_within in
      subst (λ (o : Option PortHeld). IsTrue b ↔ PathIn named (port_of o) (port_of y)) (sym first)
      (subst (λ (o : Option PortHeld). IsTrue b ↔ PathIn named (Some (named_port (names_in t.instances) from)) (port_of o)) (sym second)
      (by_name (names_in t.instances) (all_differ g t run) (subst (λ n. AreWithin n ls) c within) (subst (λ n. from.instance < n) c fx) (subst (λ n. to.instance < n) c fy)))

  -- the answer where the ports are joined
  pub joined_answer : b ≡ true → TellsPath (named_links (names_in t.instances) ls) (port_of x) (port_of y) Yes
  joined_answer e = inl (refl, joins.0 e)

  -- and where they are not
  pub apart_answer : b ≡ false → TellsPath (named_links (names_in t.instances) ls) (port_of x) (port_of y) No
  apart_answer e = inr (refl, λ h. true≢false (sym (joins.1 h) ∙ e))
