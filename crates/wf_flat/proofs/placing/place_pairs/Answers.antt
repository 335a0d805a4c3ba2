use Rattle.std.proofs.Common.{◌≡◌, ◌+◌, ◌*◌, ◌<◌, ◌^◌, ◌∙◌, List, Some, None, length, get_or, ap, sym, subst, arith}
use Rattle.std.proofs.lemmas.List.{get_or_default}
use Rattle.wf_flat.specs.declared.table.Inst.{Inst}
use Rattle.wf_flat.specs.Table.{no_instance}
use Rattle.wf_flat.specs.Leading.{NamesRows}
use Rattle.wf_flat.proofs.OfInstance.{module_there}
use Rattle.wf_flat.proofs.Widths.{length-widths}
use Rattle.wf_flat.proofs.Placed.{few_inputs, inputs_there, pairs_placed}
use Rattle.wf_flat.proofs.placing.place_pairs.Goals as goal

pub rows-requires : goal.rows-requires
rows-requires c =
    let g = c.args.g.now.core in
    let t = c.args.run.now in
    let k = c.args.k in
    let wf = c.start-formed.ensures.formed in
    let small = subst (λ (l : List Inst). length l < 2 ^ 32) c.instances.ensures.instances c.instances.ensures.small in
    let same = ap (λ l. get_or l k c.index-instances-k.result) c.instances.ensures.instances ∙ get_or_default t.instances k c.index-instances-k.result no_instance c.requires.there in
    let low = module_there g t c.requires.run wf k c.requires.there in
    subst (λ (y : Inst). y.module.0 < length c.args.leaf.now) (sym same) (subst (λ n. (get_or t.instances k no_instance).module.0 < n) (sym c.requires.made_for.each) low)

pub bounds-begins-k : goal.bounds-begins-k
bounds-begins-k c =
    let n = length-widths c.args.g.now.core c.args.run.now.instances in
    let e = c.requires.begins.count in
    let h = c.requires.there in
    omega arith

pub overflow_cast-rows : goal.overflow_cast-rows
overflow_cast-rows c =
    let g = c.args.g.now.core in
    let t = c.args.run.now in
    let k = c.args.k in
    let wf = c.start-formed.ensures.formed in
    let small = subst (λ (l : List Inst). length l < 2 ^ 32) c.instances.ensures.instances c.instances.ensures.small in
    let same = ap (λ l. get_or l k c.index-instances-k.result) c.instances.ensures.instances ∙ get_or_default t.instances k c.index-instances-k.result no_instance c.requires.there in
    let rows = c.in-Some.rows.now in
    let is = subst (λ (y : Inst). get_or c.args.leaf.now y.module.0 None ≡ Some rows) same (sym c.in-Some.ensures) in
    let each = c.requires.made_for.rows (get_or t.instances k no_instance).module.0 rows is in
    let few = few_inputs g t c.requires.run wf small c.args.leaf.now c.requires.made_for c.args.begins.now c.requires.begins k c.requires.there in
    omega arith

pub place_rows-requires-clause-there : goal.place_rows-requires-clause-there
place_rows-requires-clause-there c =
    let g = c.args.g.now.core in
    let t = c.args.run.now in
    let k = c.args.k in
    let wf = c.start-formed.ensures.formed in
    let small = subst (λ (l : List Inst). length l < 2 ^ 32) c.instances.ensures.instances c.instances.ensures.small in
    let same = ap (λ l. get_or l k c.index-instances-k.result) c.instances.ensures.instances ∙ get_or_default t.instances k c.index-instances-k.result no_instance c.requires.there in
    let rows = c.in-Some.rows.now in
    let begins = c.args.begins.now in
    let is = subst (λ (y : Inst). get_or c.args.leaf.now y.module.0 None ≡ Some rows) same (sym c.in-Some.ensures) in
    let each = c.requires.made_for.rows (get_or t.instances k no_instance).module.0 rows is in
    let room = inputs_there g t c.requires.run wf small c.args.leaf.now c.requires.made_for begins c.requires.begins k c.requires.there c.args.words.now.items c.requires.below in
    let place : k * 2 ≡ 2 * k + 0 = omega arith in
    let first = ap (λ n. get_or begins n 0) place in
    omega arith

pub place_rows-requires-clause-few : goal.place_rows-requires-clause-few
place_rows-requires-clause-few c =
    let g = c.args.g.now.core in
    let t = c.args.run.now in
    let k = c.args.k in
    let wf = c.start-formed.ensures.formed in
    let small = subst (λ (l : List Inst). length l < 2 ^ 32) c.instances.ensures.instances c.instances.ensures.small in
    let same = ap (λ l. get_or l k c.index-instances-k.result) c.instances.ensures.instances ∙ get_or_default t.instances k c.index-instances-k.result no_instance c.requires.there in
    let rows = c.in-Some.rows.now in
    let m = (get_or t.instances k no_instance).module.0 in
    let is = subst (λ (y : Inst). get_or c.args.leaf.now y.module.0 None ≡ Some rows) same (sym c.in-Some.ensures) in
    let each = c.requires.made_for.rows m rows is in
    let few = few_inputs g t c.requires.run wf small c.args.leaf.now c.requires.made_for c.args.begins.now c.requires.begins k c.requires.there in
    let low = module_there g t c.requires.run wf k c.requires.there in
    let modules = wf.few_modules in
    let product : c.from.result * c.from-2.result ≡ m * 64 = ap (λ n. n * c.from-2.result) (c.from.ensures ∙ ap (λ (y : Inst). y.module.0) same) ∙ ap (λ n. m * n) c.from-2.ensures in
    omega arith

pub returns-clause-added : goal.returns-clause-added
returns-clause-added c =
    let g = c.args.g.now.core in
    let t = c.args.run.now in
    let k = c.args.k in
    let wf = c.start-formed.ensures.formed in
    let small = subst (λ (l : List Inst). length l < 2 ^ 32) c.instances.ensures.instances c.instances.ensures.small in
    let same = ap (λ l. get_or l k c.index-instances-k.result) c.instances.ensures.instances ∙ get_or_default t.instances k c.index-instances-k.result no_instance c.requires.there in
    let rows = c.in-Some.rows.now in
    let begins = c.args.begins.now in
    let words = c.args.words.now.items in
    let words' = c.place_rows.new.words.items in
    let m = (get_or t.instances k no_instance).module.0 in
    let is = subst (λ (y : Inst). get_or c.args.leaf.now y.module.0 None ≡ Some rows) same (sym c.in-Some.ensures) in
    let product : c.from.result * c.from-2.result ≡ m * 64 = ap (λ n. n * c.from-2.result) (c.from.ensures ∙ ap (λ (y : Inst). y.module.0) same) ∙ ap (λ n. m * n) c.from-2.ensures in
    let place : k * 2 ≡ 2 * k + 0 = omega arith in
    let named = subst (λ n. NamesRows (get_or begins n 0) (length rows) (m * 64) words words') place
    (subst (λ n. NamesRows (get_or begins (k * 2) 0) (length rows) n words words') product c.place_rows.ensures.named) in
    pairs_placed g t c.requires.run wf small c.args.leaf.now c.requires.made_for begins c.requires.begins k c.requires.there rows words words' is named c.place_rows.ensures.count
