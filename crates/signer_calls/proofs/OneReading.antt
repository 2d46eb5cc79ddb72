-- A request has one reading.
use Rattle.std.proofs.Common.{◌≡◌, ◌≢◌, ◌⊎◌, ◌∙◌, ℕ, List, ◌∷◌, ◌++◌, Option, Some, None, inl, inr, ap, arith, bytes_eq, codes, drop, get_or, if◌then◌else◌, length, refl, subst, sym}
use Rattle.std.proofs.lemmas.Fmt.{decimal_injective}
use Rattle.std.proofs.lemmas.List.{append_cancel_left, length-append}
use Rattle.byteorder.specs.Endian.{big_bytes}
use Rattle.http.specs.declared.request.Request.{Request}
use Rattle.http.specs.Request.{body_of}
use Rattle.base_wire.specs.Pieces.{number_at, piece}
use Rattle.base_wire.proofs.Numbers.{behind, front, number_again}
use Rattle.certificates.specs.Votes.{vote_text}
use Rattle.certificates.specs.declared.vote.SignedVote.{SignedVote}
use Rattle.certificates.specs.declared.vote.TheConstants.{VOTE_LEN}
use Rattle.replica_requests.specs.Requests.{IsOfBlock}
use Rattle.replica_requests.specs.declared.request.Request.{Request as Asked}
use Rattle.replica_requests.specs.declared.request.Request.TheVariants as asks
use Rattle.signer_calls.specs.Asking.{ARequestHasOneReading, BlocksAsked, EndorseAsked, HasContentType, HasGoodTarget, HasNoOrigin, HasRightMethod, IsAdmitted, IsAskedAs, IsAskedAt, IsAskedOf, IsAskedPlace, IsHeldTo, IsRefusedAt, IsThere, NamesHost, OverAsked, OverFrom, PartAsked, PassesDoor, RenewAsked, SuccessorAsked, TimeoutAsked, VoteAsked, query_in}
use Rattle.signer_calls.specs.Places.{HasNoArgument, HasNoName, IsIdOf, IsNamedPlace, IsNumberOf, IsPlace, methods_of}
use Rattle.signer_calls.specs.SpelledVotes.{IsVote, SpellsVote}
use Rattle.signer_calls.specs.declared.call.Call.{Call}
use Rattle.signer_calls.specs.declared.call.Call.TheVariants as call
use Rattle.signer_calls.specs.declared.call.CallRefusal.{CallRefusal}
use Rattle.signer_calls.specs.declared.call.CallRefusal.TheVariants as refused
use Rattle.signer_calls.specs.declared.target.CallTarget.{CallTarget}
use Rattle.signer_calls.specs.declared.target.CallTarget.TheVariants as place
use Rattle.signer_calls.specs.declared.query.Query.{Query}
use Rattle.signer_calls.specs.declared.rules.Rules.{Rules}
use Rattle.signer_calls.proofs.BlockLists.{one_list}
use Rattle.signer_calls.proofs.Ids.{one_spelled}
use Rattle.signer_calls.proofs.OverBodies.{one_over_body, over_is_pair}
use Rattle.signer_calls.proofs.Pairs.{one_pair}
use Rattle.signer_calls.proofs.Parameters.{one_query}

-- ---- a path names one place

-- the place that a name is of
abbrev named : List ℕ → CallTarget
named path =
    if bytes_eq path (codes "/block") then place.Block
    else if bytes_eq path (codes "/blocks") then place.Blocks
    else if bytes_eq path (codes "/vote") then place.Vote
    else if bytes_eq path (codes "/certificate") then place.Certificate
    else if bytes_eq path (codes "/over") then place.Over
    else if bytes_eq path (codes "/endorse") then place.Endorse
    else if bytes_eq path (codes "/successor") then place.Successor
    else if bytes_eq path (codes "/log") then place.Log
    else if bytes_eq path (codes "/status") then place.Status
    else if bytes_eq path (codes "/live") then place.Live
    else if bytes_eq path (codes "/health") then place.Health
    else place.Metrics

-- a place without an argument is that of its name, or there is none of that name
abbrev IsNamed : List ℕ → CallTarget → Type 0
IsNamed path p = ((named path ≡ p) × (HasNoName path → ⊥)) ⊎ ((p ≡ place.Nowhere) × HasNoName path)

is_named : (path : List ℕ) (p : CallTarget) → IsNamedPlace path p → IsNamed path p
is_named path place.Block is = inl (ap named is, λ none. none.block is)
is_named path place.Blocks is = inl (ap named is, λ none. none.blocks is)
is_named path place.Vote is = inl (ap named is, λ none. none.vote is)
is_named path place.Certificate is = inl (ap named is, λ none. none.certificate is)
is_named path place.Over is = inl (ap named is, λ none. none.over is)
is_named path place.Endorse is = inl (ap named is, λ none. none.endorse is)
is_named path place.Successor is = inl (ap named is, λ none. none.successor is)
is_named path place.Log is = inl (ap named is, λ none. none.log is)
is_named path place.Status is = inl (ap named is, λ none. none.status is)
is_named path place.Live is = inl (ap named is, λ none. none.live is)
is_named path place.Health is = inl (ap named is, λ none. none.health is)
is_named path place.Metrics is = inl (ap named is, λ none. none.metrics is)
is_named path place.Nowhere none = inr (refl, none)
is_named path place.Renewal never = absurd never
is_named path (place.Timeout view) never = absurd never
is_named path (place.VoteIn view) never = absurd never
is_named path (place.Header id) never = absurd never

one_named : (path : List ℕ) (p q : CallTarget) → IsNamed path p → IsNamed path q → p ≡ q
one_named path p q (inl (is, some)) (inl (is', some')) = sym is ∙ is'
one_named path p q (inl (is, some)) (inr (is', none')) = absurd (some none')
one_named path p q (inr (is, none)) (inl (is', some')) = absurd (some' none)
one_named path p q (inr (is, none)) (inr (is', none')) = is ∙ sym is'

one_number : (digits : List ℕ) (v w : Option ℕ) → IsNumberOf digits v → IsNumberOf digits w → v ≡ w
one_number digits (Some v) (Some w) (low, is) (low', is') = ap (λ (n : ℕ). Some n) (decimal_injective v w low low' (sym is ∙ is'))
one_number digits (Some v) None (low, is) none = absurd (none v low is)
one_number digits None (Some w) none (low, is) = absurd (none w low is)
one_number digits None None none none' = refl

one_id : (digits : List ℕ) (i j : Option (List ℕ)) → IsIdOf digits i → IsIdOf digits j → i ≡ j
one_id digits (Some i) (Some j) (is_id, is) (is_id', is') = ap (λ (id : List ℕ). Some id) (one_spelled i j is_id is_id' (sym is ∙ is'))
one_id digits (Some i) None (is_id, is) none = absurd (none i is_id is)
one_id digits None (Some j) none (is_id, is) = absurd (none j is_id is)
one_id digits None None none none' = refl

-- how a path names a place: with an argument behind one of three words, or without
abbrev Names : List ℕ → CallTarget → Type 0
Names path p =
    ((view : Option ℕ) × (digits : List ℕ) × (p ≡ place.Timeout view) × (path ≡ codes "/timeout/" ++ digits) × IsNumberOf digits view)
    ⊎ (((view : Option ℕ) × (digits : List ℕ) × (p ≡ place.VoteIn view) × (path ≡ codes "/vote/" ++ digits) × IsNumberOf digits view)
    ⊎ (((id : Option (List ℕ)) × (digits : List ℕ) × (p ≡ place.Header id) × (path ≡ codes "/block/" ++ digits) × IsIdOf digits id)
    ⊎ (HasNoArgument path × IsNamed path p)))

without : (path : List ℕ) (p : CallTarget) → HasNoArgument path × IsNamedPlace path p → Names path p
without path p (none, is) = inr (inr (inr (none, is_named path p is)))

names : (path : List ℕ) (p : CallTarget) → IsPlace path p → Names path p
names path (place.Timeout view) (digits, at, is) = inl (view, digits, refl, at, is)
names path (place.VoteIn view) (digits, at, is) = inr (inl (view, digits, refl, at, is))
names path (place.Header id) (digits, at, is) = inr (inr (inl (id, digits, refl, at, is)))
names path place.Block is = without path place.Block is
names path place.Blocks is = without path place.Blocks is
names path place.Vote is = without path place.Vote is
names path place.Certificate is = without path place.Certificate is
names path place.Over is = without path place.Over is
names path place.Endorse is = without path place.Endorse is
names path place.Renewal is = without path place.Renewal is
names path place.Successor is = without path place.Successor is
names path place.Log is = without path place.Log is
names path place.Status is = without path place.Status is
names path place.Live is = without path place.Live is
names path place.Health is = without path place.Health is
names path place.Metrics is = without path place.Metrics is
names path place.Nowhere is = without path place.Nowhere is

-- the second byte tells the words apart
timeout_or_vote : (path a b : List ℕ) → path ≡ codes "/timeout/" ++ a → path ≡ codes "/vote/" ++ b → ⊥
timeout_or_vote path a b at at' = let seconds : 116 ≡ 118 = ap (λ (l : List ℕ). get_or l 1 0) (sym at ∙ at') in omega (arith, seconds)

timeout_or_block : (path a b : List ℕ) → path ≡ codes "/timeout/" ++ a → path ≡ codes "/block/" ++ b → ⊥
timeout_or_block path a b at at' = let seconds : 116 ≡ 98 = ap (λ (l : List ℕ). get_or l 1 0) (sym at ∙ at') in omega (arith, seconds)

vote_or_block : (path a b : List ℕ) → path ≡ codes "/vote/" ++ a → path ≡ codes "/block/" ++ b → ⊥
vote_or_block path a b at at' = let seconds : 118 ≡ 98 = ap (λ (l : List ℕ). get_or l 1 0) (sym at ∙ at') in omega (arith, seconds)

one_of_names : (path : List ℕ) (p q : CallTarget) → Names path p → Names path q → p ≡ q
one_of_names path p q (inl (v, d, is, at, of)) (inl (w, e, is', at', of')) =
    let same = append_cancel_left (codes "/timeout/") d e (sym at ∙ at') in
    is ∙ ap (λ (n : Option ℕ). place.Timeout n) (one_number e v w (subst (λ (t : List ℕ). IsNumberOf t v) same of) of') ∙ sym is'
one_of_names path p q (inl (v, d, is, at, of)) (inr (inl (w, e, is', at', of'))) = absurd (timeout_or_vote path d e at at')
one_of_names path p q (inl (v, d, is, at, of)) (inr (inr (inl (i, e, is', at', of')))) = absurd (timeout_or_block path d e at at')
one_of_names path p q (inl (v, d, is, at, of)) (inr (inr (inr (none, of')))) = absurd (none.timeout d at)
one_of_names path p q (inr (inl (v, d, is, at, of))) (inl (w, e, is', at', of')) = absurd (timeout_or_vote path e d at' at)
one_of_names path p q (inr (inl (v, d, is, at, of))) (inr (inl (w, e, is', at', of'))) =
    let same = append_cancel_left (codes "/vote/") d e (sym at ∙ at') in
    is ∙ ap (λ (n : Option ℕ). place.VoteIn n) (one_number e v w (subst (λ (t : List ℕ). IsNumberOf t v) same of) of') ∙ sym is'
one_of_names path p q (inr (inl (v, d, is, at, of))) (inr (inr (inl (i, e, is', at', of')))) = absurd (vote_or_block path d e at at')
one_of_names path p q (inr (inl (v, d, is, at, of))) (inr (inr (inr (none, of')))) = absurd (none.vote d at)
one_of_names path p q (inr (inr (inl (i, d, is, at, of)))) (inl (w, e, is', at', of')) = absurd (timeout_or_block path e d at' at)
one_of_names path p q (inr (inr (inl (i, d, is, at, of)))) (inr (inl (w, e, is', at', of'))) = absurd (vote_or_block path e d at' at)
one_of_names path p q (inr (inr (inl (i, d, is, at, of)))) (inr (inr (inl (j, e, is', at', of')))) =
    let same = append_cancel_left (codes "/block/") d e (sym at ∙ at') in
    is ∙ ap (λ (n : Option (List ℕ)). place.Header n) (one_id e i j (subst (λ (t : List ℕ). IsIdOf t i) same of) of') ∙ sym is'
one_of_names path p q (inr (inr (inl (i, d, is, at, of)))) (inr (inr (inr (none, of')))) = absurd (none.block d at)
one_of_names path p q (inr (inr (inr (none, of)))) (inl (w, e, is', at', of')) = absurd (none.timeout e at')
one_of_names path p q (inr (inr (inr (none, of)))) (inr (inl (w, e, is', at', of'))) = absurd (none.vote e at')
one_of_names path p q (inr (inr (inr (none, of)))) (inr (inr (inl (j, e, is', at', of')))) = absurd (none.block e at')
one_of_names path p q (inr (inr (inr (none, of)))) (inr (inr (inr (none', of')))) = one_named path p q of of'

one_place : (path : List ℕ) (p q : CallTarget) → IsPlace path p → IsPlace path q → p ≡ q
one_place path p q is is' = one_of_names path p q (names path p is) (names path q is')

-- ---- a request asks one place

one_asked_as : (rules : Rules) (r : Request (List ℕ)) (named p q : CallTarget) → IsAskedAs rules r named p → IsAskedAs rules r named q → p ≡ q
one_asked_as rules r named p q (inl (posts, is)) (inl (posts', is')) = is ∙ sym is'
one_asked_as rules r named p q (inl (posts, is)) (inr (not, is')) = absurd (not posts)
one_asked_as rules r named p q (inr (not, is)) (inl (posts, is')) = absurd (not posts)
one_asked_as rules r named p q (inr (not, is)) (inr (not', is')) = is ∙ sym is'

one_asked_place : (rules : Rules) (r : Request (List ℕ)) (p q : CallTarget) → IsAskedPlace rules r p → IsAskedPlace rules r q → p ≡ q
one_asked_place rules r p q (n, is, of) (m, is', of') =
    let same = one_place _ n m is is' in
    one_asked_as rules r m p q (subst (λ (x : CallTarget). IsAskedAs rules r x p) same of) of'

-- ---- a body spells one block

one_block : (bytes : List ℕ) (r s : Asked) → IsOfBlock bytes r → IsOfBlock bytes s → r ≡ s
one_block bytes (asks.Block h c) (asks.Block h' c') (a, b) (a', b') = cc (sym a ∙ a', sym b ∙ b')
one_block bytes (asks.Block h c) (asks.RefusedHeader e) (a, b) a' = absurd (cc (sym a ∙ a'))
one_block bytes (asks.Block h c) (asks.RefusedCertificate e) (a, b) (h', a', b') = absurd (cc (sym b ∙ b'))
one_block bytes (asks.RefusedHeader e) (asks.Block h c) a (a', b') = absurd (cc (sym a ∙ a'))
one_block bytes (asks.RefusedHeader e) (asks.RefusedHeader e') a a' = cc (sym a ∙ a')
one_block bytes (asks.RefusedHeader e) (asks.RefusedCertificate e') a (h', a', b') = absurd (cc (sym a ∙ a'))
one_block bytes (asks.RefusedCertificate e) (asks.Block h c) (h', a, b) (a', b') = absurd (cc (sym b ∙ b'))
one_block bytes (asks.RefusedCertificate e) (asks.RefusedHeader e') (h', a, b) a' = absurd (cc (sym a ∙ a'))
one_block bytes (asks.RefusedCertificate e) (asks.RefusedCertificate e') (h, a, b) (h', a', b') = cc (sym b ∙ b')
one_block bytes (asks.Block h c) (asks.Timeout w) a b = absurd b
one_block bytes (asks.RefusedHeader e) (asks.Timeout w) a b = absurd b
one_block bytes (asks.RefusedCertificate e) (asks.Timeout w) a b = absurd b
one_block bytes (asks.Timeout v) s a b = absurd a

-- ---- a body spells one vote

record HasParts (text : List ℕ) (v : SignedVote) : Type 0 where
  replica : number_at 2 text 0 ≡ v.replica
  key : get_or text 2 0 ≡ v.key
  view : number_at 8 text 3 ≡ v.view
  id : piece 32 text 11 ≡ v.id
  signature : drop 43 text ≡ v.signature

has_parts : (v : SignedVote) → IsVote v → HasParts (vote_text v) v
unfolding vote_text
has_parts v is =
    let text = vote_text v in
    let number = big_bytes 8 v.view in
    let after_replica : drop 2 text ≡ v.key ∷ (number ++ (v.id ++ v.signature)) = refl in
    let after_key : drop 3 text ≡ number ++ (v.id ++ v.signature) = refl in
    let after_view : drop 11 text ≡ v.id ++ v.signature = behind text 3 8 number (v.id ++ v.signature) after_key refl in
    record {
      replica = number_again 2 text 0 v.replica is.replica refl;
      key = refl;
      view = number_again 8 text 3 v.view is.view (front text 3 8 number (v.id ++ v.signature) after_key refl);
      id = front text 11 32 v.id v.signature after_view is.id;
      signature = behind text 11 32 v.id v.signature after_view is.id;
    }

same_parts : (r r' k k' v v' : ℕ) (i i' s s' : List ℕ) → r ≡ r' → k ≡ k' → v ≡ v' → i ≡ i' → s ≡ s'
    → record { replica = r; view = v; id = i; key = k; signature = s } ≡ (let w : SignedVote = record { replica = r'; view = v'; id = i'; key = k'; signature = s' } in w)
same_parts r r' k k' v v' i i' s s' a b c d e = cc

one_vote : (bytes : List ℕ) (v w : SignedVote) → SpellsVote bytes v → SpellsVote bytes w → v ≡ w
one_vote bytes v w (fits, is) (fits', is') =
    let a = has_parts v fits in
    let b = has_parts w fits' in
    let same = is ∙ sym is' in
    let replica = sym a.replica ∙ ap (λ (t : List ℕ). number_at 2 t 0) same ∙ b.replica in
    let key = sym a.key ∙ ap (λ (t : List ℕ). get_or t 2 0) same ∙ b.key in
    let view = sym a.view ∙ ap (λ (t : List ℕ). number_at 8 t 3) same ∙ b.view in
    let id = sym a.id ∙ ap (λ (t : List ℕ). piece 32 t 11) same ∙ b.id in
    let signature = sym a.signature ∙ ap (λ (t : List ℕ). drop 43 t) same ∙ b.signature in
    same_parts v.replica w.replica v.key w.key v.view w.view v.id w.id v.signature w.signature replica key view id signature

length-vote : (v : SignedVote) → IsVote v → length (vote_text v) ≡ VOTE_LEN
unfolding vote_text
length-vote v is =
    let id = is.id in
    let signature = is.signature in
    omega (arith, length-append v.id v.signature)

-- a call that a body asks for at /vote
abbrev VoteCase : List ℕ → Call → Type 0
VoteCase body a = ((v : SignedVote) × (a ≡ call.Judge v) × SpellsVote body v) ⊎ ((a ≡ call.Refused refused.Length) × (length body ≢ VOTE_LEN))

vote_case : (body : List ℕ) (a : Call) → VoteAsked body a → VoteCase body a
vote_case body (call.Judge v) is = inl (v, refl, is)
vote_case body (call.Replica x) is = inr is
vote_case body (call.Blocks x) is = inr is
vote_case body (call.Certificate x) is = inr is
vote_case body (call.Over x) is = inr is
vote_case body call.Endorse is = inr is
vote_case body (call.Renew x) is = inr is
vote_case body (call.VoteIn x) is = inr is
vote_case body (call.Header x) is = inr is
vote_case body (call.Successor x) is = inr is
vote_case body (call.Log x) is = inr is
vote_case body call.Status is = inr is
vote_case body call.Live is = inr is
vote_case body call.Health is = inr is
vote_case body call.Metrics is = inr is
vote_case body (call.Refused x) is = inr is

long_vote : (body : List ℕ) (v : SignedVote) → SpellsVote body v → length body ≡ VOTE_LEN
long_vote body v (fits, is) = ap (λ (t : List ℕ). length t) (sym is) ∙ length-vote v fits

one_vote_call : (body : List ℕ) (a b : Call) → VoteCase body a → VoteCase body b → a ≡ b
one_vote_call body a b (inl (v, is, spells)) (inl (w, is', spells')) =
    is ∙ ap (λ (x : SignedVote). call.Judge x) (one_vote body v w spells spells') ∙ sym is'
one_vote_call body a b (inl (v, is, spells)) (inr (is', short)) = absurd (short (long_vote body v spells))
one_vote_call body a b (inr (is, short)) (inl (w, is', spells')) = absurd (short (long_vote body w spells'))
one_vote_call body a b (inr (is, short)) (inr (is', short')) = is ∙ sym is'

-- ---- one thing is asked of a place

one_timeout : (view : ℕ) (body : List ℕ) (a b : Call) → TimeoutAsked view body a → TimeoutAsked view body b → a ≡ b
one_timeout view body a b (inl (empty, is)) (inl (empty', is')) = is ∙ sym is'
one_timeout view body a b (inl (empty, is)) (inr (some, is')) = absurd (some empty)
one_timeout view body a b (inr (some, is)) (inl (empty, is')) = absurd (some empty)
one_timeout view body a b (inr (some, is)) (inr (some', is')) = is ∙ sym is'

one_blocks : (body : List ℕ) (a b : Call) → BlocksAsked body a → BlocksAsked body b → a ≡ b
one_blocks body a b (inl (xs, at, is)) (inl (ys, at', is')) = is ∙ ap (λ (l : List (List ℕ)). call.Blocks l) (one_list body xs ys at at') ∙ sym is'
one_blocks body a b (inl (xs, at, is)) (inr (none, is')) = absurd (none xs at)
one_blocks body a b (inr (none, is)) (inl (ys, at', is')) = absurd (none ys at')
one_blocks body a b (inr (none, is)) (inr (none', is')) = is ∙ sym is'

one_part : (q : Query) (a b : Call) → PartAsked q a → PartAsked q b → a ≡ b
one_part q a b (inl (none, is)) (inl (none', is')) = is ∙ sym is'
one_part q a b (inl (none, is)) (inr (some, is')) = absurd (some none)
one_part q a b (inr (some, is)) (inl (none, is')) = absurd (some none)
one_part q a b (inr (some, is)) (inr (some', is')) = is ∙ sym is'

one_successor : (payload : Option (List ℕ)) (a b : Call) → SuccessorAsked payload a → SuccessorAsked payload b → a ≡ b
one_successor (Some payload) a b is is' = is ∙ sym is'
one_successor None a b is is' = is ∙ sym is'

one_over_from : (chain : Option (List ℕ)) (renewal file : List ℕ) (proof : Option (List ℕ)) (a b : Call) → OverFrom chain renewal file proof a
    → OverFrom chain renewal file proof b → a ≡ b
one_over_from (Some chain) renewal file proof a b is is' = is ∙ sym is'
one_over_from None renewal file proof a b is is' = is ∙ sym is'

one_over : (chain : Option (List ℕ)) (body : List ℕ) (a b : Call) → OverAsked chain body a → OverAsked chain body b → a ≡ b
one_over chain body a b (inl (r, f, p, at, is)) (inl (r', f', p', at', is')) =
    let same = one_over_body body r f p r' f' p' at at' in
    let renewals = subst (λ (x : List ℕ). OverFrom chain x f p a) same.0 is in
    let files = subst (λ (x : List ℕ). OverFrom chain r' x p a) same.1 renewals in
    one_over_from chain r' f' p' a b (subst (λ (x : Option (List ℕ)). OverFrom chain r' f' x a) same.2 files) is'
one_over chain body a b (inl (r, f, p, at, is)) (inr (none, is')) = absurd (over_is_pair body r f p at none)
one_over chain body a b (inr (none, is)) (inl (r, f, p, at, is')) = absurd (over_is_pair body r f p at none)
one_over chain body a b (inr (none, is)) (inr (none', is')) = is ∙ sym is'

one_endorse : (body : List ℕ) (a b : Call) → EndorseAsked body a → EndorseAsked body b → a ≡ b
one_endorse body a b (inl (empty, is)) (inl (empty', is')) = is ∙ sym is'
one_endorse body a b (inl (empty, is)) (inr (not, is')) = absurd (not empty)
one_endorse body a b (inr (not, is)) (inl (empty, is')) = absurd (not empty)
one_endorse body a b (inr (not, is)) (inr (not', is')) = is ∙ sym is'

one_renew : (body : List ℕ) (a b : Call) → RenewAsked body a → RenewAsked body b → a ≡ b
one_renew body a b (inl (r, f, at, is)) (inl (r', f', at', is')) =
    let same = one_pair body r f r' f' at at' in
    is ∙ ap (λ (x : List ℕ). call.Renew (record { renewal = x; file = f })) same.0
    ∙ ap (λ (x : List ℕ). call.Renew (record { renewal = r'; file = x })) same.1 ∙ sym is'
one_renew body a b (inl (r, f, at, is)) (inr (none, is')) = absurd (none r f at)
one_renew body a b (inr (none, is)) (inl (r, f, at, is')) = absurd (none r f at)
one_renew body a b (inr (none, is)) (inr (none', is')) = is ∙ sym is'

one_asked : (r : Request (List ℕ)) (p : CallTarget) (q : Query) (a b : Call) → IsAskedAt r p q a → IsAskedAt r p q b → a ≡ b
one_asked r place.Block q a b (x, is, of) (y, is', of') = is ∙ ap (λ (z : Asked). call.Replica z) (one_block (body_of r) x y of of') ∙ sym is'
one_asked r place.Blocks q a b of of' = one_blocks (body_of r) a b of of'
one_asked r (place.Timeout (Some view)) q a b of of' = one_timeout view (body_of r) a b of of'
one_asked r (place.Timeout None) q a b is is' = is ∙ sym is'
one_asked r place.Vote q a b of of' = one_vote_call (body_of r) a b (vote_case (body_of r) a of) (vote_case (body_of r) b of')
one_asked r place.Certificate q a b is is' = is ∙ sym is'
one_asked r place.Over q a b of of' = one_over q.chain (body_of r) a b of of'
one_asked r place.Endorse q a b of of' = one_endorse (body_of r) a b of of'
one_asked r place.Renewal q a b of of' = one_renew (body_of r) a b of of'
one_asked r (place.VoteIn (Some view)) q a b is is' = is ∙ sym is'
one_asked r (place.VoteIn None) q a b is is' = is ∙ sym is'
one_asked r (place.Header (Some id)) q a b is is' = is ∙ sym is'
one_asked r (place.Header None) q a b is is' = is ∙ sym is'
one_asked r place.Log q a b of of' = one_part q a b of of'
one_asked r place.Successor q a b of of' = one_successor q.payload a b of of'
one_asked r place.Status q a b is is' = is ∙ sym is'
one_asked r place.Live q a b is is' = is ∙ sym is'
one_asked r place.Health q a b is is' = is ∙ sym is'
one_asked r place.Metrics q a b is is' = is ∙ sym is'
one_asked r place.Nowhere q a b is is' = is ∙ sym is'

-- ---- a call is held to one chain

one_held : (rules : Rules) (committee : List ℕ) (chain : Option (List ℕ)) (before a b : Call) → IsHeldTo rules committee chain before a → IsHeldTo rules committee chain before b → a ≡ b
one_held rules committee chain before a b (inl (well, another, is)) (inl (well', another', is')) = is ∙ sym is'
one_held rules committee chain before a b (inl (well, another, is)) (inr (not, is')) = absurd (not well another)
one_held rules committee chain before a b (inr (not, is)) (inl (well, another, is')) = absurd (not well another)
one_held rules committee chain before a b (inr (not, is)) (inr (not', is')) = is ∙ sym is'

one_asked_of : (rules : Rules) (committee : List ℕ) (r : Request (List ℕ)) (p : CallTarget) (a b : Call) → IsAskedOf rules committee r p a → IsAskedOf rules committee r p b → a ≡ b
one_asked_of rules committee r p a b (inl (q, x, named, asked, held)) (inl (q', y, named', asked', held')) =
    let same = one_query (query_in r) q q' named named' in
    let calls = one_asked r p q' x y (subst (λ (z : Query). IsAskedAt r p z x) same asked) asked' in
    one_held rules committee q'.chain y a b (subst (λ (z : Query). IsHeldTo rules committee z.chain y a) same (subst (λ (z : Call). IsHeldTo rules committee q.chain z a) calls held)) held'
one_asked_of rules committee r p a b (inl (q, x, named, asked, held)) (inr (none, is)) = absurd (none q named)
one_asked_of rules committee r p a b (inr (none, is)) (inl (q, x, named, asked, held)) = absurd (none q named)
one_asked_of rules committee r p a b (inr (none, is)) (inr (none', is')) = is ∙ sym is'

-- ---- one test fails first

-- the refusal is that of this test, which fails, or the test holds and one behind it fails
abbrev FailsFirst : Type 0 → CallRefusal → Type 0 → CallRefusal → Type 0
FailsFirst Holds of Behind refusal = ((refusal ≡ of) × (Holds → ⊥)) ⊎ (Holds × Behind)

one_first : (Holds Behind Behind' : Type 0) (of a b : CallRefusal) → (Behind → Behind' → a ≡ b)
    → FailsFirst Holds of Behind a → FailsFirst Holds of Behind' b → a ≡ b
one_first Holds Behind Behind' of a b last (inl (is, fails)) (inl (is', fails')) = is ∙ sym is'
one_first Holds Behind Behind' of a b last (inl (is, fails)) (inr (holds, behind)) = absurd (fails holds)
one_first Holds Behind Behind' of a b last (inr (holds, behind)) (inl (is, fails)) = absurd (fails holds)
one_first Holds Behind Behind' of a b last (inr (holds, behind)) (inr (holds', behind')) = last behind behind'

module _ (rules : Rules) (r : Request (List ℕ)) (p : CallTarget) where
  abbrev AtContentType : CallRefusal → Type 0
  AtContentType x = (x ≡ refused.ContentType) × (HasContentType rules r p → ⊥)

  abbrev AtMethod : CallRefusal → Type 0
  AtMethod x = FailsFirst (HasRightMethod r p) (refused.Method (methods_of p)) (AtContentType x) x

  abbrev AtThere : CallRefusal → Type 0
  AtThere x = FailsFirst (IsThere rules r p) refused.NoSuchCall (AtMethod x) x

  abbrev AtOrigin : CallRefusal → Type 0
  AtOrigin x = FailsFirst (HasNoOrigin rules r) refused.Origin (AtThere x) x

  abbrev AtHost : CallRefusal → Type 0
  AtHost x = FailsFirst (NamesHost rules r) refused.Host (AtOrigin x) x

  abbrev AtTarget : CallRefusal → Type 0
  AtTarget x = FailsFirst (HasGoodTarget r p) refused.Target (AtHost x) x

  one_at : (a b : CallRefusal) → AtTarget a → AtTarget b → a ≡ b
  one_at a b =
      one_first (HasGoodTarget r p) (AtHost a) (AtHost b) refused.Target a b
      (one_first (NamesHost rules r) (AtOrigin a) (AtOrigin b) refused.Host a b
      (one_first (HasNoOrigin rules r) (AtThere a) (AtThere b) refused.Origin a b
      (one_first (IsThere rules r p) (AtMethod a) (AtMethod b) refused.NoSuchCall a b
      (one_first (HasRightMethod r p) (AtContentType a) (AtContentType b) (refused.Method (methods_of p)) a b
      (λ x y. x.0 ∙ sym y.0)))))

  behind_door : (a : CallRefusal) → PassesDoor rules r p → AtThere a → AtTarget a
  behind_door a door at = inr (door.target, inr (door.host, inr (door.origin, at)))

  at_target : (a : CallRefusal) → IsRefusedAt rules r p a → AtTarget a
  at_target refused.Target fails = inl (refl, fails)
  at_target refused.Host (target, fails) = inr (target, inl (refl, fails))
  at_target refused.Origin (target, host, fails) = inr (target, inr (host, inl (refl, fails)))
  at_target refused.NoSuchCall (door, fails) = behind_door refused.NoSuchCall door (inl (refl, fails))
  at_target (refused.Method methods) (door, there, is, fails) =
      behind_door (refused.Method methods) door (inr (there, inl (cc is, fails)))
  at_target refused.ContentType (door, there, method, fails) =
      behind_door refused.ContentType door (inr (there, inr (method, (refl, fails))))
  at_target refused.Number never = absurd never
  at_target refused.Far never = absurd never
  at_target refused.NoVote never = absurd never
  at_target refused.NotHeld never = absurd never
  at_target refused.Length never = absurd never
  at_target refused.Chain never = absurd never

  pub one_refusal : (a b : CallRefusal) → IsRefusedAt rules r p a → IsRefusedAt rules r p b → a ≡ b
  one_refusal a b is is' = one_at a b (at_target a is) (at_target b is')

  pub not_both : (a : CallRefusal) → IsAdmitted rules r p → IsRefusedAt rules r p a → ⊥
  not_both refused.Target admitted fails = fails admitted.door.target
  not_both refused.Host admitted (target, fails) = fails admitted.door.host
  not_both refused.Origin admitted (target, host, fails) = fails admitted.door.origin
  not_both refused.NoSuchCall admitted (door, fails) = fails admitted.there
  not_both (refused.Method methods) admitted (door, there, is, fails) = fails admitted.method
  not_both refused.ContentType admitted (door, there, method, fails) = fails admitted.content_type
  not_both refused.Number admitted never = never
  not_both refused.Far admitted never = never
  not_both refused.NoVote admitted never = never
  not_both refused.NotHeld admitted never = never
  not_both refused.Length admitted never = never
  not_both refused.Chain admitted never = never

-- ---- the whole

abbrev Reads : Rules → List ℕ → Request (List ℕ) → CallTarget → Call → Type 0
Reads rules committee r p a =
    (IsAdmitted rules r p × IsAskedOf rules committee r p a) ⊎ ((refusal : CallRefusal) × (a ≡ call.Refused refusal) × IsRefusedAt rules r p refusal)

one_of_place : (rules : Rules) (committee : List ℕ) (r : Request (List ℕ)) (p : CallTarget) (a b : Call) → Reads rules committee r p a → Reads rules committee r p b → a ≡ b
one_of_place rules committee r p a b (inl (admitted, asked)) (inl (admitted', asked')) = one_asked_of rules committee r p a b asked asked'
one_of_place rules committee r p a b (inl (admitted, asked)) (inr (x, is, at)) = absurd (not_both rules r p x admitted at)
one_of_place rules committee r p a b (inr (x, is, at)) (inl (admitted, asked)) = absurd (not_both rules r p x admitted at)
one_of_place rules committee r p a b (inr (x, is, at)) (inr (y, is', at')) =
    is ∙ ap (λ (z : CallRefusal). call.Refused z) (one_refusal rules r p x y at at') ∙ sym is'

pub one_reading : ARequestHasOneReading
one_reading rules committee r a b x y =
    let same = one_asked_place rules r x.place y.place x.is y.is in
    one_of_place rules committee r y.place a b (subst (λ (p : CallTarget). Reads rules committee r p a) same x.reads) y.reads
