-- From where a user may come: an IP address, or one and a port.
use Rattle.std.specs.Prelude.{◌≡◌, ◌⊎◌, ℕ, ◌+◌, List, Some, None}
use Rattle.std.specs.Net.Addr.{ipv4_bits, ipv6_bits}
use Rattle.std.specs.Net.Grammar.{IsIpText, IsSocketText}
use Rattle.std.specs.Net.Socket.{socket_ip, socket_port}
use Rattle.std.specs.declared.net.ip_addr.IpAddr.{IpAddr}
use Rattle.std.specs.declared.net.ip_addr.IpAddr.TheVariants.{V4, V6}
use Rattle.std.specs.declared.net.socket_addr.SocketAddr.{SocketAddr}
use Rattle.floor_udp.specs.declared.origin.Origin.{Origin}

-- the number of an address: one of IPv4 has its number behind ::ffff:0:0
abbrev pub number_of : IpAddr → ℕ
number_of (V4 a) = 281470681743360 + ipv4_bits a
number_of (V6 a) = ipv6_bits a

-- the text is an address
abbrev pub IsAddressText : List ℕ → Origin → Type 0
IsAddressText text o = (ip : IpAddr) × IsIpText text ip × (o ≡ record { address = number_of ip; port = None })

-- the text is an address and a port
abbrev pub IsSocketOrigin : List ℕ → Origin → Type 0
IsSocketOrigin text o =
    (s : SocketAddr) × IsSocketText text s × (o ≡ record { address = number_of (socket_ip s); port = Some (socket_port s) })

abbrev pub IsOriginText : List ℕ → Origin → Type 0
IsOriginText text o = IsAddressText text o ⊎ IsSocketOrigin text o
