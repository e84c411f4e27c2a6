use Rattle.std.proofs.Common.{◌*◌, ◌≤◌, length, ap, arith}
use Rattle.cell_heap.proofs.IndexLemmas.{found, start_is, start_within}
use Rattle.cell_heap.proofs.indexes.TextIndex.place_of.Goals as goal

pub slice_bounds-place_of_character-count : goal.slice_bounds-place_of_character-count
slice_bounds-place_of_character-count c =
    let le : c.min-count.result ≤ length c.args.self.now = omega (arith, c.min-count.ensures, c.len.ensures, ap length c.self.view_is) in
    start_within c.args.text.now c.args.self.now c.min-count.result c.start-start.result c.requires le c.start-start.ensures

pub slice_bounds-place_of_character-start : goal.slice_bounds-place_of_character-start
slice_bounds-place_of_character-start c =
    let le : c.min-count.result ≤ length c.args.self.now = omega (arith, c.min-count.ensures, c.len.ensures, ap length c.self.view_is) in
    start_within c.args.text.now c.args.self.now c.min-count.result c.start-start.result c.requires le c.start-start.ensures

pub returns : goal.returns
returns c =
    let count = c.min-count.result in
    let le : count ≤ length c.args.self.now = omega (arith, c.min-count.ensures, c.len.ensures, ap length c.self.view_is) in
    let start = start_is c.args.text.now c.args.self.now count c.start-start.result c.requires le c.start-start.ensures in
    let before : 64 * count ≤ c.args.at = omega (arith, c.min-count.ensures) in
    found c.args.text.now c.start-start.result count c.args.at c.place_of_character.result start before c.place_of_character.ensures.place
