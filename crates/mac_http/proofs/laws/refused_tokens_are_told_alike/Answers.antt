use Rattle.mac_http.proofs.laws.refused_tokens_are_told_alike.Goals as goal

pub returns : goal.returns
returns c = λ scheme why other granted response. (λ told. told, λ told. told)
