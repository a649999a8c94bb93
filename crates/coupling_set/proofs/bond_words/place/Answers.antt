-- A bond's word lies in its plane, at the site's place there.
use Rattle.std.proofs.Common.{sym}
use Rattle.coupling_set.proofs.KeptPlanes.{kept_place-site}
use Rattle.coupling_set.proofs.bond_words.place.Goals as goal

pub returns-clause-value : goal.returns-clause-value
returns-clause-value c =
    rw (c.plane_start-start.ensures.value, c.size-size.ensures.value, c.colour.ensures.value, c.coordinates-x.ensures.x, c.coordinates-x.ensures.y, c.coordinates-x.ensures.z)
    (sym (kept_place-site c.args.lattice.now c.args.site c.args.d c.size-size.ensures.lawful c.requires.site))
