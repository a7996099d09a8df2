use Rattle.std.proofs.Common.{sym, refl, ◌∙◌}
use Rattle.text.specs.Words.{bytes_of}
use Rattle.names.proofs.Searches.{less, next_at, search_start, search_next, known, unknown}
use Rattle.names.proofs.NameTable.search.Goals as goal

pub loop-at-init : goal.loop-at-init
loop-at-init c =
    let t = c.args.self.now in
    search_start t.in_order (bytes_of t.text.now c.args.word) (c.from-branch.ensures ∙ c.hash_of-hash.ensures.bucket_value) refl

pub returns-then-has_name : goal.returns-then-has_name
returns-then-has_name c =
    let t = c.args.self.now in
    known t.in_order (bytes_of t.text.now c.args.word) c.loop-at-test.true c.loop-at.invariant.within (sym c.has_name.ensures ∙ c.if-has_name.true)

pub loop-at-smaller : goal.loop-at-smaller
loop-at-smaller c =
    let t = c.args.self.now in
    let w = bytes_of t.text.now c.args.word in
    less t.in_order w c.loop-at.depth c.loop-at-test.true c.loop-at.invariant.here (next_at t.in_order w c.loop-at.depth c.loop-at-test.true c.loop-at.invariant.here c.digit-branch.ensures.0 c.link-at.ensures)

pub loop-at-preserved : goal.loop-at-preserved
loop-at-preserved c =
    let t = c.args.self.now in
    let other = sym c.has_name.ensures ∙ c.if-has_name.false in
    search_next t.in_order (bytes_of t.text.now c.args.word) c.loop-at.depth c.loop-at-test.true c.loop-at.invariant other c.digit-branch.ensures.0 c.link-at.ensures

pub returns : goal.returns
returns c =
    let t = c.args.self.now in
    let ended = sym c.loop-at.invariant.here ∙ c.loop-at-test.false in
    let none = unknown t.in_order (bytes_of t.text.now c.args.word) c.loop-at.depth ended c.loop-at.invariant.others in (
      none,
      refl,
      record {
        inside = c.requires.word_in_text;
        unknown = none;
        key = c.hash_of-hash.ensures.key_value;
        ends = record { depth = c.loop-at.depth; ended = ended; behind = c.loop-at.invariant.behind };
      },
    )
