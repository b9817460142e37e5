use Rattle.mq_c.proofs.Common.{rules, ◌≡◌, ◌+◌, ◌++◌, length, drop, sym, ap, ◌∙◌, append-nil, append_assoc, drop_all, drop-drop, big_bytes}
use Rattle.mq_c.proofs.queries.frame.Goals as goal

pub returns : goal.returns
returns g c =
    let W = g.K.WireKey.WIDTH in
    let n = length c.args.bytes.now in
    let to = big_bytes W (g.K.Key.number c.args.to) in
    let told = big_bytes 2 n in
    let rest = drop (W + (2 + n)) c.args.out.now in
    let wide : length c.split_at_mut-head.result.0.now ≡ W = c.split_at_mut-head.ensures.front_len ∙ c.WIDTH.ensures in
    let head : c.write.new.out ≡ to =
    c.write.ensures ∙ ap (λ t. to ++ t) (drop_all W c.split_at_mut-head.result.0.now (rw wide (search rules))) ∙ append-nil to in
    let two : length c.split_at_mut-length.result.0.now ≡ 2 = c.split_at_mut-length.ensures.front_len in
    let tells : c.write_u16.new.buf ≡ told =
    c.write_u16.ensures ∙ ap (λ t. told ++ t) (drop_all 2 c.split_at_mut-length.result.0.now (rw two (search rules))) ∙ append-nil told in
    let body : c.copy_from_slice.new.self ≡ c.args.bytes.now = c.copy_from_slice.ensures.after in
    let behind : c.split_at_mut-message.result.1.now ≡ rest =
    c.split_at_mut-message.ensures.back
    ∙ ap (λ l. drop n l)
    (c.split_at_mut-length.ensures.back ∙ ap (λ l. drop 2 l) (c.split_at_mut-head.ensures.back ∙ ap (λ w. drop w c.args.out.now) c.WIDTH.ensures))
    ∙ drop-drop n 2 (drop W c.args.out.now) ∙ drop-drop (2 + n) W c.args.out.now in
    rw (head, tells, body, behind)
    (sym (append_assoc (to ++ told) c.args.bytes.now rest ∙ append_assoc to told (c.args.bytes.now ++ rest)))
