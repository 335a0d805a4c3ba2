-- Items of one run with one label are one item.
use Rattle.std.proofs.Common.{◌≡◌, [], ◌++◌, get_or, sym, ap, ◌∙◌, subst, append-nil}
use Rattle.wf_model.specs.Grammar.{production_at, module_at, head_of}
use Rattle.wf_model.specs.Run.{Expanded, expanded_by, IsRun, root_of}
use Rattle.wf_model.specs.Items.{input_items, output_items, edge_item}
use Rattle.wf_model.specs.Routes.{IsAddress}
use Rattle.wf_model.proofs.Lists.{at_below, at_is}
use Rattle.wf_model.proofs.Expanding.{one_expansion}
use Rattle.label_model.specs.Labels.{Input, Output}
use Rattle.label_model.specs.Places.{place_of}
use Rattle.label_model.specs.RunLabels.{address_in}
use Rattle.label_model.specs.RunLaws.{OneItemLaw}
use Rattle.label_model.proofs.PlaceRoutes.{place_law}
use Rattle.label_model.proofs.InstanceAddresses.{address_leads, instance_law}
use Rattle.label_model.proofs.TakenEvents.{expansion_of}
use Rattle.label_model.proofs.ItemLabels.{no_item, IsKind, an_input, an_output, of_edge, kind, ending}

pub one_item_law : OneItemLaw
one_item_law g events t u l wf run ht hu = go (kind g events run t l ht) (kind g events run u l hu)
  where
    go : IsKind g events t l → IsKind g events u l → t ≡ u
    go (an_input j ja a b) (an_input k kc c d) = let e : Input j ≡ Input k = sym b ∙ d in let f : j ≡ k = cc in a ∙ (ap (λ z. get_or (input_items (root_of events) 0 (module_at g g.start).inputs) z no_item) f ∙ sym c)
    go (an_input j ja a b) (an_output k kc c d) = let e : Input j ≡ Output k = sym b ∙ d in absurd (cc)
    go (an_input j ja a b) (of_edge i p names h x) = let e = sym b ∙ x.label_is in absurd (cc)
    go (an_output j ja a b) (an_input k kc c d) = let e : Output j ≡ Input k = sym b ∙ d in absurd (cc)
    go (an_output j ja a b) (an_output k kc c d) = let e : Output j ≡ Output k = sym b ∙ d in let f : j ≡ k = cc in a ∙ (ap (λ z. get_or (output_items (root_of events) 0 (module_at g g.start).outputs) z no_item) f ∙ sym c)
    go (an_output j ja a b) (of_edge i p names h x) = let e = sym b ∙ x.label_is in absurd (cc)
    go (of_edge i p names h x) (an_input k kc c d) = let e = sym x.label_is ∙ d in absurd (cc)
    go (of_edge i p names h x) (an_output k kc c d) = let e = sym x.label_is ∙ d in absurd (cc)
    go (of_edge i p names h x) (of_edge j q others k y) =
        let e = sym x.label_is ∙ y.label_is in
        let w : place_of g g.start (address_in events i) p x.edge_no ≡ place_of g g.start (address_in events j) q y.edge_no = cc in
        let r = (place_law g wf g.start).one (address_in events i) (address_in events j) p q x.edge_no y.edge_no
        (ending g events run i p names h x.edge_no (at_below x.edge x.edge_no (production_at g p).edges x.at))
        (ending g events run j q others k y.edge_no (at_below y.edge y.edge_no (production_at g q).edges y.at)) w in
        let run' : IsRun g g.start (events ++ []) = subst (λ z. IsRun g g.start z) (sym (append-nil events)) run in
        let xi = expansion_of g g.start events run i p names h in
        let yj = expansion_of g g.start events run j q others k in
        let ai = (instance_law g g.start events [] (record { name = i; module_no = head_of g p }) run' xi.stands).address in
        let aj = (instance_law g g.start events [] (record { name = j; module_no = head_of g q }) run' yj.stands).address in
        let same : i ≡ j = address_leads events (address_in events i) (root_of events) i j ai (subst (λ z. IsAddress events (root_of events) z j) (sym r.0) aj) in
        let both = one_expansion (expanded_by events i) (record { production = p; names = names }) (record { production = q; names = others }) xi.told (ap (expanded_by events) same ∙ yj.told) in
        let names_same : names ≡ others = ap (λ (z : Expanded). z.names) both in
        let edge_same : x.edge ≡ y.edge = sym (at_is x.edge x.edge_no (production_at g p).edges x.edge x.at) ∙ (ap (λ z. get_or (production_at g z).edges x.edge_no x.edge) r.1 ∙ (ap (λ z. get_or (production_at g q).edges z x.edge) r.2 ∙ at_is y.edge y.edge_no (production_at g q).edges x.edge y.at)) in
        x.item_is ∙ ((λ n. edge_item g (same n) (r.1 n) (names_same n) (edge_same n)) ∙ sym y.item_is)
