-- How many items a held run has.
use Rattle.std.proofs.Common.{◌≡◌, ℕ, ◌+◌, ◌<◌, List, [], ◌∷◌, ◌++◌, map, flat_map, take, length, get_or, ap, ◌∙◌, length-append, append-nil, arith}
use Rattle.std.proofs.lemmas.List.{length-map}
use Rattle.wf_model.specs.Lists.{numbers_from}
use Rattle.wf_model.specs.Grammar.{Grammar, inputs_of, outputs_of}
use Rattle.wf_model.proofs.NumberLists.{length-numbers}
use Rattle.wf_flat.specs.Table.{Table, names_in}
use Rattle.wf_chain.specs.ItemLists.{input_held, output_held, ports_held, root_held}
use Rattle.wf_chain.proofs.ReadLists.{flat_map_read}

ports_count : (g : Grammar) → length (ports_held g) ≡ inputs_of g g.start + outputs_of g g.start
ports_count g =
    let ins = length-map (numbers_from 0 (inputs_of g g.start)) input_held ∙ length-numbers 0 (inputs_of g g.start) in
    let outs = length-map (numbers_from 0 (outputs_of g g.start)) output_held ∙ length-numbers 0 (outputs_of g g.start) in
    length-append (map input_held (numbers_from 0 (inputs_of g g.start))) (map output_held (numbers_from 0 (outputs_of g g.start))) ∙ (λ z. ins z + outs z)

ports_once : (g : Grammar) (names : List (List ℕ)) → 0 < length names → flat_map (λ n. ports_held g) (take 1 names) ≡ ports_held g
ports_once g [] some = absurd (omega arith)
ports_once g (n ∷ names) some = append-nil (ports_held g)

-- the items of the root of a run that is started
pub root_count : (g : Grammar) (t : Table) → 0 < length t.instances → length (root_held g t) ≡ inputs_of g g.start + outputs_of g g.start
root_count g t some =
    let named : 0 < length (names_in t.instances) = let e = length-map t.instances (λ x. x.name) in omega arith in
    ap length (ports_once g (names_in t.instances) named) ∙ ports_count g

-- the items so far, and those that are read
pub count_read : {A B : Type 0} (f : A → List B) (before : List B) (xs ys : List A) (k : ℕ) (d : A) (count more : ℕ) → xs ≡ ys → k < length xs → count ≡ length (before ++ flat_map f (take k ys)) → more ≡ length (f (get_or xs k d))
    → count + more ≡ length (before ++ flat_map f (take (k + 1) ys))
count_read f before xs ys k d count more same there so_far here =
    let now = length-append before (flat_map f (take k ys)) in
    let then = length-append before (flat_map f (take (k + 1) ys)) in
    let read = ap length (flat_map_read xs ys k d same there f) ∙ length-append (flat_map f (take k ys)) (f (get_or xs k d)) in
    omega arith
