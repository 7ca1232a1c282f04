use Rattle.std.proofs.Common.{IsTrue, false, subst, sym}
use Rattle.std.specs.Net.Addr.{MatchIp, IsLoopbackV4, IsLoopbackV6}
use Rattle.std.specs.declared.net.ip_addr.IpAddr.{IpAddr}
use Rattle.mac_gate.specs.Address.{IsWithin}
use Rattle.mac_gate.specs.declared.address.Address.TheVariants.{Tcp}
use Rattle.mac_gate.specs.declared.address.Reach.{Reach}
use Rattle.mac_gate.proofs.address.read_socket.Goals as goal

pub returns-in-Loopback-false : goal.returns-in-Loopback-false
returns-in-Loopback-false c =
    let socket = c.in-Ok.socket in
    let tells = c.in-Loopback-false.ensures.1 in
    let bad : IsWithin c.args.reach (Tcp socket) → IsTrue false = λ within. tells (subst (λ (ip : IpAddr). MatchIp ip IsLoopbackV4 IsLoopbackV6) (sym c.ip.ensures) (subst (λ (r : Reach). IsWithin r (Tcp socket)) c.in-Loopback-false.is-0 within)) in
    (Tcp socket, (c.requires, c.in-Ok.ensures), λ within. let no = bad within in cc)
