use mathlib.Core.Path.{◌≡◌, sym}
use native.Mathlib.Omega.{arith}
use lib.ListN.{length, take}
use lib.Seq.{length-take-le}
use Rattle.program_texts.proofs.Puts.{digits_room, end_room, number_put, number_end}
use Rattle.program_texts.proofs.put_number.Goals as goal

pub put-next-requires : goal.put-next-requires
put-next-requires c =
    let k = c.put_digits-k.result in
    let d = c.put_digits-k.new.out in
    let l : k ≡ length (take k d) = sym (length-take-le k d (omega arith)) in
    digits_room c.args.n k d (omega arith) c.put_digits-k.ensures.count l c.args.at (length c.args.end.now) (length c.args.out.now) (omega arith)

pub put-requires : goal.put-requires
put-requires c =
    let k = c.put_digits-k.result in
    let d = c.put_digits-k.new.out in
    let l : k ≡ length (take k d) = sym (length-take-le k d (omega arith)) in
    end_room c.args.n k d (omega arith) c.put_digits-k.ensures.count l _ _ _ _ c.put-next.ensures c.args.end.now (omega arith)

pub returns : goal.returns
returns c =
    let k = c.put_digits-k.result in
    let d = c.put_digits-k.new.out in
    let l : k ≡ length (take k d) = sym (length-take-le k d (omega arith)) in (
      number_put c.args.n k d (omega arith) c.put_digits-k.ensures.count l _ _ _ _ c.put-next.ensures _ _ _ c.put.ensures c.put_digits-k.ensures.digits,
      number_end c.args.n k d (omega arith) c.put_digits-k.ensures.count l _ _ _ _ c.put-next.ensures _ _ _ c.put.ensures,
    )
