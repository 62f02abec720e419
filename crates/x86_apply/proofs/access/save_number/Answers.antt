use Rattle.std.proofs.Common.{◌≡◌, ℕ, List, ◌≤◌, ap, ◌∙◌, arith, get_or, Some, None, subst}
use Rattle.std.specs.Prelude.{OnOk, IfErr}
use Rattle.orc_bits.specs.Lanes.{byte_of, from_bytes}
use Rattle.orc_bits.specs.Memory.{Memory, store, missing}
use Rattle.orc_bits.proofs.LaneLaws.{from_byte}
use Rattle.x86_apply.proofs.Accesses.{store_same, unmapped_at}
use Rattle.x86_apply.proofs.access.save_number.Goals as goal

same_store : (n v : ℕ) (mem : Memory) (a : ℕ) (bytes : List ℕ) → n ≤ 8 → bytes ≡ from_bytes (byte_of n v) → store n mem a (λ j. get_or bytes j 0) ≡ store n mem a (byte_of n v)
same_store n v mem a bytes few e = store_same n mem a (λ j. get_or bytes j 0) (byte_of n v) (λ j l. ap (λ b. get_or b j 0) e ∙ from_byte (byte_of n v) j (omega (arith, l, few)))

pub returns-clause-ok : goal.returns-clause-ok
returns-clause-ok g c =
    let m = g.B.Bytes.bytes c.args.mem.now in
    subst (λ o. OnOk c.save_register.result (o ≡ Some (g.B.Bytes.bytes c.save_register.new.mem)))
    (same_store c.args.n c.args.v m c.args.at c.number_bytes-bytes.result c.requires.few c.number_bytes-bytes.ensures) c.save_register.ensures.ok

pub returns-clause-trap : goal.returns-clause-trap
returns-clause-trap g c =
    let m = g.B.Bytes.bytes c.args.mem.now in
    subst (λ o. IfErr c.save_register.result (λ t. (o ≡ None) × (t ≡ unmapped_at (missing c.args.n m c.args.at))))
    (same_store c.args.n c.args.v m c.args.at c.number_bytes-bytes.result c.requires.few c.number_bytes-bytes.ensures) c.save_register.ensures.trap
