-- What only private functions of this crate promise each other: the exact form of a kind as a mask.
use Rattle.std.specs.Prelude.{ℕ, ◌+◌, ◌*◌, ◌^◌, Bool, true, false}
use Rattle.isa.specs.declared.Named.{Named}

-- the bits that are 0 in a field: of a register, named or not, and of w
abbrev pub clear_register : Bool → ℕ
clear_register true = 0xe0
clear_register false = 0xff

abbrev pub clear_immediate : Bool → ℕ
clear_immediate true = 0
clear_immediate false = 0xffff_ffff

-- the bits that are 0 in a word that names these fields
abbrev pub clear_of : Named → ℕ
clear_of m = ((clear_register m.a * 256 + clear_register m.b) * 256 + clear_register m.c) * 2 ^ 32 + clear_immediate m.w
