use Rattle.std.proofs.Common.{rules}
use Rattle.names.proofs.Defined.{link_room, define_leaves}
use Rattle.names.proofs.define.Goals as goal

pub set_link-requires : goal.set_link-requires
set_link-requires c =
    let n = c.requires.new in
    record { link_fits = link_room c.args.name.word.start c.args.name.word.len c.args.wire c.requires.table n.inside c.requires.room c.requires.few n.key n.ends n.unknown (search rules) }

pub returns : goal.returns
returns c =
    let n = c.requires.new in
    rw c.copy_from_slice.ensures.after
    (define_leaves c.args.name.word.start c.args.name.word.len c.args.wire c.requires.table n.inside c.requires.room c.requires.few n.key n.ends n.unknown c.set_link.ensures.heads_after c.set_link.ensures.names_after)
