-- `copy` meets its contract: parts of three sizes, to the end, are all the bytes (`copied_all`).
use Rattle.editions.proofs.Copying.{copied_all}
use Rattle.editions.proofs.numbers.copy.Goals as goal

pub returns : goal.returns
returns c =
    copied_all c.copy_parts-k.ensures.few.0 c.copy_parts.ensures.few.0 c.copy_parts.ensures.few.1 c.copy_parts.ensures.few.2
    c.copy_parts-i.ensures.copied c.copy_parts-k.ensures.copied c.copy_parts.ensures.copied
