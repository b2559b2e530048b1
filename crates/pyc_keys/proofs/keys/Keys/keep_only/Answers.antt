use Rattle.std.proofs.Common.{◌≡◌, ◌<◌, ◌≤◌, ℕ, None, ◌∙◌, ap, arith, length, take, flat_map}
use Rattle.std.proofs.Math.Seq.{take-length}
use Rattle.pyc_keys.specs.KeyNumbers.{key_at}
use Rattle.pyc_keys.specs.KeyTableView.{keys_in}
use Rattle.pyc_keys.specs.Marks.{is_marked, is_in}
use Rattle.pyc_keys.specs.Numbering.{marked_only, only}
use Rattle.pyc_keys.proofs.MarkLemmas.{only_marked, still_unmarked}
use Rattle.pyc_keys.proofs.keys.Keys.keep_only.Goals as goal

pub invariant_of-self : goal.invariant_of-self
invariant_of-self g c =
    λ i past.
    ap (λ f. f i) c.keep_marked.ensures
    ∙ still_unmarked c.as_slice.result.now (keys_in c.loop-read_set.self-inside.table) i
    (ap (λ t. keys_in t i) c.loop-read_set.invariant.table
    ∙ c.self.invariant i (omega (arith, past, c.loop-read_set.invariant.bound, c.clear.ensures.bound)))

pub returns : goal.returns
returns g c =
    let marks = c.loop-read_set.self-inside.marks in
    let numbers = flat_map g.R.ReadSet.numbers c.args.read_sets.now in
    let last : c.loop-read_set.read_set-index ≡ length c.args.read_sets.now =
    omega (arith, c.loop-read_set-test.false, c.loop-read_set.auto.read_set-index-end) in
    let whole : take c.loop-read_set.read_set-index c.args.read_sets.now ≡ c.args.read_sets.now =
    ap (λ n. take n c.args.read_sets.now) last ∙ take-length c.args.read_sets.now in
    let past : (i : ℕ) → length marks ≤ i → keys_in c.loop-read_set.self-inside.table i ≡ None =
    λ i p. ap (λ t. keys_in t i) c.loop-read_set.invariant.table
    ∙ c.self.invariant i (omega (arith, p, c.loop-read_set.invariant.bound, c.clear.ensures.bound)) in
    let marked : (i : ℕ) → i < length marks → is_marked marks i ≡ is_in numbers i =
    λ i below. c.loop-read_set.invariant.marked i (omega (arith, below, c.loop-read_set.invariant.bound))
    ∙ ap (λ rs. is_in (flat_map g.R.ReadSet.numbers rs) i) whole in
    c.keep_marked.ensures
    ∙ ap (λ ms. marked_only ms (keys_in c.loop-read_set.self-inside.table)) c.as_slice.ensures
    ∙ only_marked marks numbers (keys_in c.loop-read_set.self-inside.table) marked past
    ∙ ap (λ t. only numbers (keys_in t)) c.loop-read_set.invariant.table
    ∙ ap (λ ks. only numbers (key_at ks)) c.self.view_is
