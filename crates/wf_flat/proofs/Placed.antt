-- The words of the ports of one more instance.
use Rattle.std.proofs.Common.{◌≡◌, ℕ, ◌+◌, ◌*◌, ◌<◌, ◌≤◌, ◌^◌, Bool, List, [], ◌∷◌, ◌++◌, take, drop, length, get_or, set, replicate, Option, Some, None, refl, sym, ap, subst, ◌∙◌, arith, ⊎_elim, append_assoc, append-nil}
use Rattle.std.proofs.lemmas.List.{take_more, take-append-drop, get_or_default}
use Rattle.wf_model.specs.declared.numbers.ProdNo.{ProdNo}
use Rattle.wf_model.specs.declared.numbers.Side.TheVariants.{Input}
use Rattle.wf_model.specs.Lists.{IsIn}
use Rattle.wf_model.specs.Grammar.{Grammar, production_at, inputs_of}
use Rattle.wf_model.specs.WellFormed.{IsWellFormed}
use Rattle.wf_model.proofs.Lists.{in_append_left, in_append_right, in_append_cases}
use Rattle.wf_flat.specs.declared.table.Inst.{Inst}
use Rattle.wf_flat.specs.declared.graph.Link.{Link}
use Rattle.wf_flat.specs.declared.module_rows.Row.{Row}
use Rattle.wf_flat.specs.Table.{Table, IsTableOf, no_instance}
use Rattle.wf_flat.specs.Graph.{wiring_at, pairs_by, pairs_at, links_at, links_among, IsMadeFor}
use Rattle.wf_flat.specs.Numbering.{number_of, widths_of, AreNumbered, AreBegins}
use Rattle.wf_flat.specs.Leading.{row_of, AreRowsOf, IsIndex, AddsLinks, AddsPairs, AddsInstance, NamesRows, LeaveOnce}
use Rattle.wf_flat.proofs.OfInstance.{module_there}
use Rattle.wf_flat.proofs.Naming.{Counted, counted}
use Rattle.wf_flat.proofs.Numbers.{all_numbered, sums_rise, below_last, no_link, link_in}
use Rattle.wf_flat.proofs.Widths.{length-widths, width_at, wiring_wide, pairs_wide}
use Rattle.wf_flat.proofs.LeavingOnce.{leave_once, input_owned}
use Rattle.wf_flat.proofs.Indexing.{index_none, index_more, index_pairs}
use Rattle.wf_flat.proofs.RowSteps.{append_flat}

-- a link of a list more
pub link_more : (list ls : List Link) (begins words words' : List ℕ) (rows : List Row) (n : ℕ) → n < length list → LeaveOnce list (ls ++ list) → AreNumbered begins list → length words ≤ 2147483648 →
    words' ≡ set words (number_of begins (get_or list n no_link).from) (number_of begins (get_or list n no_link).to) →
    IsIndex (ls ++ take n list) begins words rows → IsIndex (ls ++ take (n + 1) list) begins words' rows
link_more list ls begins words words' rows n low once numbered few e i =
    let l = get_or list n no_link in
    let inside = link_in list n low in
    let w = numbered l inside in
    let made = index_more (ls ++ take n list) begins words rows i l w.0 w.1 few (λ k h q. once l inside k (⊎_elim (λ a. in_append_left k ls list a) (λ a. in_append_right k ls list (subst (IsIn k) (take-append-drop n list) (in_append_left k (take n list) (drop n list) a))) (in_append_cases k ls (take n list) h)) q) in
    let all : (ls ++ take n list) ++ l ∷ [] ≡ ls ++ take (n + 1) list = append_assoc ls (take n list) (l ∷ []) ∙ ap (λ z. ls ++ z) (sym (take_more list n no_link low)) in
    subst (λ z. IsIndex (ls ++ take (n + 1) list) begins z rows) (sym e) (subst (λ z. IsIndex z begins (set words (number_of begins l.from) (number_of begins l.to)) rows) all made)

module _ (g : Grammar) (t : Table) (run : IsTableOf g t) (wf : IsWellFormed g) (small : length t.instances < 2 ^ 32) (leaf : List (Option (List ℕ))) (made : IsMadeFor g leaf) (begins : List ℕ) (are : AreBegins g t.instances begins) where
  module _ (k : ℕ) (there : k < length t.instances) where
    abbrev x : Inst
    x = get_or t.instances k no_instance

    abbrev m : ℕ
    m = x.module.0

    in_range : m < length g.modules
    in_range = module_there g t run wf k there

    few : Counted g m (get_or g.modules m (record { name = []; inputs = []; outputs = [] }))
    few = counted g g.modules m (get_or g.modules m (record { name = []; inputs = []; outputs = [] })) wf refl in_range (sym (get_or_default g.modules m _ _ in_range))

    pub few_inputs : inputs_of g m ≤ 64
    few_inputs = let f = few in subst (λ n. n ≤ 64) f.inputs f.few_inputs

    middle : get_or begins (2 * k + 1) 0 ≡ get_or begins (2 * k + 0) 0 + inputs_of g m
    middle =
        let n = length-widths g t.instances in
        let low : 2 * k + 0 < length (widths_of g t.instances) = omega arith in
        let place : 2 * k + 1 ≡ (2 * k + 0) + 1 = omega arith in
        ap (λ z. get_or begins z 0) place ∙ (are.step (2 * k + 0) low ∙ ap (λ z. get_or begins (2 * k + 0) 0 + z) (width_at g t.instances k Input there))

    pub pairs_placed : (list words words' : List ℕ) → get_or leaf m None ≡ Some list → NamesRows (get_or begins (2 * k + 0) 0) (length list) (m * 64) words words' → length words' ≡ length words → AddsPairs g leaf t.instances k begins words words'
    pairs_placed list words words' is named count ls rows own rs i =
        let each : length list ≡ inputs_of g m = made.rows m list is in
        let some = few_inputs in
        subst (λ o. IsIndex (ls ++ pairs_by g m k o) begins words' rows) (sym is)
        (index_pairs g m k list ls begins words words' rows (get_or begins (2 * k + 0) 0) (m * 64) i some refl middle
        (subst (λ n. NamesRows (get_or begins (2 * k + 0) 0) n (m * 64) words words') each named) count
        (λ j h. let low : j < 64 = omega arith in rs.each m j in_range low ∙ ap (λ o. row_of g m o j) is)
        (subst (λ o. AreNumbered begins (pairs_by g m k o)) is (all_numbered (widths_of g t.instances) begins are (pairs_at g leaf m k) (pairs_wide g t run wf small k there (get_or leaf m None))))
        (λ l h e s. subst (λ o. IsIn l (pairs_by g m k o)) is (own l h e s)))

    pub nothing_placed : (words : List ℕ) → get_or leaf m None ≡ None → AddsPairs g leaf t.instances k begins words words
    nothing_placed words is ls rows own rs i = subst (λ o. IsIndex (ls ++ pairs_by g m k o) begins words rows) (sym is) (subst (λ l. IsIndex l begins words rows) (sym (append-nil ls)) i)

    -- the first number of a side is that of a port, and no more inputs follow than there are ports
    pub inputs_there : (words : List ℕ) → ((j : ℕ) → get_or begins j 0 ≤ length words) → get_or begins (2 * k + 0) 0 + inputs_of g m ≤ length words
    inputs_there words below = let b = below (2 * k + 1) in let e = middle in omega arith

    module _ (marks : List Bool) (words words' : List ℕ) where
      pub closed_placed : links_at g marks leaf t.instances k ≡ pairs_at g leaf m k → AddsPairs g leaf t.instances k begins words words' → AddsInstance g marks leaf t.instances k begins words words'
      closed_placed same adds numbers rows all rs i =
          let ls = links_among g marks leaf t.instances numbers in
          subst (λ l. IsIndex (ls ++ l) begins words' rows) (sym same)
          (adds ls rows (λ l h e s. subst (IsIn l) same (input_owned g t run wf small marks leaf k numbers all l h e s)) rs i)

      pub opened_placed : (p : ProdNo) → x.production ≡ Some p → links_at g marks leaf t.instances k ≡ wiring_at k x.first_child (production_at g p.0) → AddsLinks (wiring_at k x.first_child (production_at g p.0)) begins words words' →
          AddsInstance g marks leaf t.instances k begins words words'
      opened_placed p by same adds numbers rows all rs i =
          let ls = links_among g marks leaf t.instances numbers in
          subst (λ l. IsIndex (ls ++ l) begins words' rows) (sym same)
          (adds ls rows (leave_once g t run wf small marks leaf k there p by same numbers all) i)

    pub wiring_numbered : (p : ProdNo) → x.production ≡ Some p → AreNumbered begins (wiring_at k x.first_child (production_at g p.0))
    wiring_numbered p by = all_numbered (widths_of g t.instances) begins are (wiring_at k x.first_child (production_at g p.0)) (wiring_wide g t run wf small k there p by)

-- the words where no instance was placed
pub none_placed : (g : Grammar) (leaf : List (Option (List ℕ))) (xs : List Inst) (begins words : List ℕ) (rows : List Row) (ports : ℕ) → AreBegins g xs begins → ports ≡ get_or begins (length (widths_of g xs)) 0 → words ≡ replicate ports 4294967295 → AreRowsOf g leaf rows → IsIndex [] begins words rows
none_placed g leaf xs begins words rows ports are last none rs =
    index_none begins words rows ports (sums_rise (widths_of g xs) begins (length (widths_of g xs)) are)
    (λ k. subst (λ n. get_or begins k 0 ≤ n) (sym last) (below_last (widths_of g xs) begins (length (widths_of g xs)) are k)) none rs.few

-- the links of some instances and of one more
pub among_more : (g : Grammar) (marks : List Bool) (leaf : List (Option (List ℕ))) (xs : List Inst) (ks : List ℕ) (n : ℕ) → n < length ks →
    links_among g marks leaf xs (take n ks) ++ links_at g marks leaf xs (get_or ks n 0) ≡ links_among g marks leaf xs (take (n + 1) ks)
among_more g marks leaf xs ks n h =
    ap (λ l. links_among g marks leaf xs (take n ks) ++ l) (sym (append-nil (links_at g marks leaf xs (get_or ks n 0))))
    ∙ sym (ap (links_among g marks leaf xs) (take_more ks n 0 h) ∙ append_flat (links_at g marks leaf xs) (take n ks) (get_or ks n 0 ∷ []))
