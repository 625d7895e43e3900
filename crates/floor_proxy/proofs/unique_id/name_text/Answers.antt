use Rattle.std.proofs.Common.{◌≡◌, ◌≤◌, ℕ, ◌<◌, ◌^◌, length, string_bytes, ◌∷◌, ◌++◌, decimal, ap, arith, length-append}
use Rattle.std.proofs.lemmas.Fmt.{length-decimal-le}
use Rattle.std.proofs.lemmas.Result.{IfOk-weaker}
use Rattle.floor_proxy.proofs.unique_id.name_text.Goals as goal

-- a name has ten digits, a dot and five digits at most
short : (c u : ℕ) → c < 2 ^ 32 → u < 2 ^ 16 → length (decimal c ++ 46 ∷ decimal u) ≤ 16
short c u within_c within_u = omega (
  arith,
  length-append (decimal c) (46 ∷ decimal u),
  length-decimal-le 10 c (omega arith) (omega (arith, within_c)) (omega (arith, within_c)),
  length-decimal-le 5 u (omega arith) (omega (arith, within_u)) (omega (arith, within_u)),
)

pub returns-clause-short : goal.returns-clause-short
returns-clause-short c = IfOk-weaker c.format.result
    (λ name. string_bytes name ≡ decimal c.args.conference ++ 46 ∷ decimal c.args.user) (λ name. length (string_bytes name) ≤ 16)
    (λ name is. omega (arith, ap length is, short c.args.conference c.args.user c.ranges.conference.fits c.ranges.user.fits))
    c.format.ensures.ok
