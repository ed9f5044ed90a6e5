-- `parcel::put_section` meets its contract: a count, and then the numbers (`Sections`).
use Rattle.std.proofs.Common.{◌≡◌, ◌/◌, length}
use Rattle.std.proofs.lemmas.List.Edits.{sets}
use Rattle.rising.proofs.Numbers.{numbers_length}
use Rattle.parcel.specs.Bytes.{bytes_of}
use Rattle.parcel.proofs.Sections.{section_put}
use Rattle.parcel.proofs.put_section.Goals as goal

pub returns : goal.returns
returns g c =
    let a = c.args in
    let xs = g.N.Number.numbers a.xs.now in
    let long = numbers_length g.N.Number.numbers g.N.Number.number g.N.Number.each a.xs.now in
    let count : c.write.new.s ≡ sets a.s.now a.at (bytes_of 4 (length xs / a.each)) = rw long c.write.ensures in
    section_put g.N.Stored.WIDTH a.each a.at xs a.s.now count c.put_numbers.ensures
