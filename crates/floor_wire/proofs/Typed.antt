-- The formats of the table.
use Rattle.std.proofs.Common.{◌≡◌, ℕ, true, false, refl, arith}
use Rattle.std.proofs.lemmas.Bool.Decides.{nat_tests}
use Rattle.std.proofs.lemmas.List.Elements.{All-from_recursion}
use Rattle.floor_wire.specs.Spelling.{format_of, is_known}
use Rattle.floor_wire.specs.Types.{Entry, table, FormatsAreOfTable}
use Rattle.floor_wire.specs.declared.format.Format.TheVariants.{OctetString}

others_octets : (kind : ℕ) → is_known kind ≡ false → format_of kind ≡ OctetString
others_octets kind h = grind (arith, nat_tests)

pub formats_are_of_table : FormatsAreOfTable
formats_are_of_table = record {
  known = All-from_recursion (λ (e : Entry). is_known e.kind ≡ true) table (refl, (refl, (refl, (refl, (refl, (refl, (refl, (refl, (refl, (refl, (refl, (refl, (refl, (refl, (refl, (refl, (refl, (refl, tt))))))))))))))))));
  formats = All-from_recursion (λ (e : Entry). format_of e.kind ≡ e.format) table (refl, (refl, (refl, (refl, (refl, (refl, (refl, (refl, (refl, (refl, (refl, (refl, (refl, (refl, (refl, (refl, (refl, (refl, tt))))))))))))))))));
  others = others_octets;
}
