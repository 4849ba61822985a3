use Rattle.std.proofs.Common.{◌≡◌, ◌∷◌, ◌++◌, length, arith}
use Rattle.std.proofs.lemmas.Grind.{common_steps}
use Rattle.svcb_list.proofs.BuildLemmas.{pushed_protocols, pushed_are}
use Rattle.svcb_list.proofs.alpn_builder.append_protocol.Goals as goal

-- the length stands behind the old octets, and the protocol behind it
written : (c : goal.After-unwrap-2)
    → c.extend_from_slice.new.self.items ≡ c.args.octets.now.items ++ length c.args.protocol.now
    ∷ c.args.protocol.now
written c = grind (arith, common_steps)

pub returns-clause-ok : goal.returns-clause-ok
returns-clause-ok c = pushed_protocols _ _ c.args.protocol.now c.requires.are (written c)

pub returns-clause-are : goal.returns-clause-are
returns-clause-are c = pushed_are _ _ c.args.protocol.now c.requires.are c.requires.room (written c)
